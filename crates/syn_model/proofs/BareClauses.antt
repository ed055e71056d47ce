-- Clauses without the places of their terms: the arguments, the patterns among them, and where a body uses the symbol that it
-- defines.
use Rattle.std.proofs.Common.{◌≡◌, ◌↔◌, ℕ, ◌+◌, List, [], ◌∷◌, ◌++◌, All, Option, None, Some, if◌then◌else◌, map, nat_eq, ◌&&◌, slice_get, length, refl, sym, ◌∙◌, ap, subst, rules}
use Rattle.std.specs.List.{range_with_len}
use Rattle.std.specs.Option.{option_and_then, option_map}
use Rattle.std.proofs.lemmas.Option.{slice_get-map}
use Rattle.syn_term.specs.declared.sorts.Head.{Head}
use Rattle.syn_term.specs.declared.sorts.Head.TheVariants as head
use Rattle.syn_term.specs.declared.sorts.Sort.{Sort}
use Rattle.syn_term.specs.declared.sorts.SymId.{SymId}
use Rattle.syn_term.specs.declared.sorts.Var.{Var}
use Rattle.syn_term.specs.declared.term.Place.{Place}
use Rattle.syn_term.specs.declared.term.Node.{out-Node}
use Rattle.syn_term.specs.declared.term.Node.TheOpen.{Node-F}
use Rattle.syn_term.specs.declared.term.Node.TheVariants as node
use Rattle.syn_term.specs.declared.term.Node.TheViews as view
use Rattle.syn_term.specs.declared.term.Node.TheViews.{the_lemmas}
use Rattle.syn_term.specs.Symbols.{SymbolTable}
use Rattle.syn_term.specs.Terms.{TermTree, args_of, bare, bare_step, head_of, nowhere}
use Rattle.syn_term.proofs.Trees.{bare-App, fold-Var}
use Rattle.syn_form.specs.Plain.{IsSorted}
use Rattle.syn_form.specs.Simplification.{Junction, conjunction, disjunction}
use Rattle.syn_form.specs.Trees.{FormTree, OutTree, bare_form, bare_out, term_vars}
use Rattle.syn_form.proofs.BareFacts.{both_and, both_each, both_kept, both_to, every_bare, every_bare_form, every_bare_out, sorted_bare}
use Rattle.syn_form.proofs.BareVars.{term_vars_bare, vars_bare}
use Rattle.syn_form.proofs.Nodes.{chain_layer}
use Rattle.syn_form.proofs.Sorting.{sorts_bare}
use Rattle.syn_form.proofs.TermNodes.{by_term_cases, out-App}
use Rattle.syn_model.specs.declared.uses.Rest.{Rest}
use Rattle.syn_model.specs.declared.patterns.Pattern.{Pattern}
use Rattle.syn_model.specs.Clauses.{HasArguments, IsVariable, MayUse, UsesForm, UsesFormNode, UsesNode, UsesOut, UsesOutNode, UsesTerm, first_turn, go_together, last_var, rest_at, second_turn, turn_of}
use Rattle.syn_model.specs.Headings.{are_all, one_suffices, pattern_at, patterns_from, patterns_of, role_of}

out-Var : (p : Place) (v : Var) → out-Node (node.Var p v) ≡ Node-F.Var p v
out-Var p v = search (rules, the_lemmas)

pub head-Var : (p : Place) (v : Var) → head_of (node.Var p v) ≡ head.Var v
head-Var p v = let e : out-Node (node.Var p v) ≡ Node-F.Var p v = out-Var p v in rw e refl

pub head-App : (p : Place) (f : SymId) (args : List TermTree) → head_of (view.App p f args) ≡ head.Sym f
head-App p f args = let e : out-Node (view.App p f args) ≡ Node-F.App p f args = out-App p f args in rw e refl

args-Var : (p : Place) (v : Var) → args_of (node.Var p v) ≡ []
args-Var p v = let e : out-Node (node.Var p v) ≡ Node-F.Var p v = out-Var p v in rw e refl

pub args-App : (p : Place) (f : SymId) (args : List TermTree) → args_of (view.App p f args) ≡ args
args-App p f args = let e : out-Node (view.App p f args) ≡ Node-F.App p f args = out-App p f args in rw e refl

-- what stands at the top is as it was
pub head_bare : (t : TermTree) → head_of (bare t) ≡ head_of t
head_bare = by_term_cases (λ t. head_of (bare t) ≡ head_of t)
    (λ p v. ap head_of (fold-Var bare_step p v) ∙ (head-Var nowhere v ∙ sym (head-Var p v)))
    (λ p f args held. ap head_of (bare-App p f args) ∙ (head-App nowhere f (map bare args) ∙ sym (head-App p f args)))

-- and the arguments are, without their places
pub args_bare : (t : TermTree) → args_of (bare t) ≡ map bare (args_of t)
args_bare = by_term_cases (λ t. args_of (bare t) ≡ map bare (args_of t))
    (λ p v. ap args_of (fold-Var bare_step p v) ∙ (args-Var nowhere v ∙ ap (map bare) (sym (args-Var p v))))
    (λ p f args held. ap args_of (bare-App p f args) ∙ (args-App nowhere f (map bare args) ∙ ap (map bare) (sym (args-App p f args))))

patterns_same : (n : ℕ) (args : List TermTree) → patterns_from n (map bare args) ≡ patterns_from n args
patterns_same n [] = refl
patterns_same n (t ∷ ts) = ap (λ (h : Head). pattern_at n h ++ patterns_from (n + 1) (map bare ts)) (head_bare t) ∙ ap (λ (z : List Pattern). pattern_at n (head_of t) ++ z) (patterns_same (n + 1) ts)

pub patterns_bare : (args : List TermTree) → patterns_of (map bare args) ≡ patterns_of args
patterns_bare = patterns_same 0

rest_bare : (args : List TermTree) (n : ℕ) → rest_at (map bare args) n ≡ rest_at args n
rest_bare args n = ap (option_map (λ (v : Var). rest n v)) (ap (option_and_then last_of) (slice_get-map bare args n) ∙ go (slice_get args n))
  where
    rest : ℕ → Var → Rest
    rest n v = record { place = n; var = v }

    last_of : TermTree → Option Var
    last_of t = last_var (term_vars t)

    go : (o : Option TermTree) → option_and_then last_of (option_map bare o) ≡ option_and_then last_of o
    go None = refl
    go (Some t) = ap last_var (term_vars_bare t)

second_bare : (table : SymbolTable) (args : List TermTree) (ps qs : List Pattern) → second_turn table (map bare args) ps qs ≡ second_turn table args ps qs
second_bare table args [] qs = refl
second_bare table args (p ∷ []) [] = refl
second_bare table args (p ∷ []) (q ∷ []) =
    ap (λ (r : Option Rest). if go_together (role_of table p) (role_of table q) && nat_eq p.place q.place then option_map Some r else None) (rest_bare args q.place)
second_bare table args (p ∷ []) (q ∷ r ∷ qs) = refl
second_bare table args (p ∷ o ∷ ps) qs = refl

-- whether a clause may come next, and where its body may use the symbol
pub turn_bare : (table : SymbolTable) (clauses : List (List TermTree)) (args : List TermTree) → turn_of table (map (map bare) clauses) (map bare args) ≡ turn_of table clauses args
turn_bare table [] args = ap (first_turn table) (patterns_bare args)
turn_bare table (c ∷ []) args =
    ap (λ (ps : List Pattern). second_turn table (map bare args) ps (patterns_of (map bare args))) (patterns_bare c)
    ∙ (ap (second_turn table (map bare args) (patterns_of c)) (patterns_bare args) ∙ second_bare table args (patterns_of c) (patterns_of args))
turn_bare table (c ∷ d ∷ cs) args = refl

-- whether a clause is missing
pub all_bare : (table : SymbolTable) (clauses : List (List TermTree)) → are_all table (map (map bare) clauses) ≡ are_all table clauses
all_bare table [] = refl
all_bare table (c ∷ []) = ap (one_suffices table) (patterns_bare c)
all_bare table (c ∷ d ∷ cs) = refl

variable_bare : (t : TermTree) → IsVariable (bare t) ↔ IsVariable t
variable_bare t = ((λ h. (h.0, sym (head_bare t) ∙ h.1)), (λ h. (h.0, head_bare t ∙ h.1)))

flat_bare : (t : TermTree) → All IsVariable (args_of (bare t)) ↔ All IsVariable (args_of t)
flat_bare t =
    let both = both_each IsVariable IsVariable bare (args_of t) variable_bare in
    ((λ h. both.0 (subst (All IsVariable) (args_bare t) h)), (λ h. subst (All IsVariable) (sym (args_bare t)) (both.1 h)))

abbrev IsFlat : TermTree → Type 0
IsFlat t = All IsVariable (args_of t)

abbrev AreNumbered : List Var → Type 0
AreNumbered vs = map (λ v. v.number) vs ≡ range_with_len 1 (length vs)

module _ (table : SymbolTable) (sorts : List Sort) (args : List TermTree) where
  pub arguments_bare : HasArguments table sorts (map bare args) ↔ HasArguments table sorts args
  arguments_bare =
      let sorted = both_each (IsSorted table) (IsSorted table) bare args (sorted_bare table) in
      let flat = both_each IsFlat IsFlat bare args flat_bare in (
        (λ h. record { sorted = sorted.0 h.sorted; of_sorts = sym (sorts_bare table args) ∙ h.of_sorts; flat = flat.0 h.flat; numbered = subst AreNumbered (vars_bare args) h.numbered }),
        (λ h. record { sorted = sorted.1 h.sorted; of_sorts = sorts_bare table args ∙ h.of_sorts; flat = flat.1 h.flat; numbered = subst AreNumbered (sym (vars_bare args)) h.numbered }),
      )

module _ (own : SymId) where
  with_bare : (args : List TermTree) (n : ℕ) (t : TermTree) (o : Option TermTree) → slice_get args n ≡ o → option_map bare o ≡ Some t → (u : TermTree) × (slice_get args n ≡ Some u) × (bare u ≡ t)
  with_bare args n t None is e = absurd (cc)
  with_bare args n t (Some u) is e = (u, is, cc)

  may_use_bare : (rest : Option Rest) (args : List TermTree) → MayUse rest (map bare args) ↔ MayUse rest args
  may_use_bare None args = both_kept
  may_use_bare (Some rest) args = (
    (λ h. let p = with_bare args rest.place h.0 (slice_get args rest.place) refl (sym (slice_get-map bare args rest.place) ∙ h.1) in (p.0, p.1, sym (head_bare p.0) ∙ (ap head_of p.2 ∙ h.2))),
    (λ h. (bare h.0, slice_get-map bare args rest.place ∙ ap (option_map bare) h.1, head_bare h.0 ∙ h.2)),
  )

  stands_bare : (rest : Option Rest) (f : SymId) (args : List TermTree) → (f ≡ own → MayUse rest (map bare args)) ↔ (f ≡ own → MayUse rest args)
  stands_bare rest f args = both_to (may_use_bare rest args)

  -- where a body uses the symbol
  pub uses_term_bare : (rest : Option Rest) (t : TermTree) → UsesTerm own rest (bare t) ↔ UsesTerm own rest t
  uses_term_bare rest = every_bare (UsesNode own rest) record {
    at_var = λ p v. both_kept;
    at_app = λ p f args. stands_bare rest f args;
  }

  uses_chain : (rest : Option Rest) (j : Junction) (all : List FormTree) → UsesFormNode own rest (chain_layer j (map bare_form all)) ↔ UsesFormNode own rest (chain_layer j all)
  uses_chain rest conjunction all = both_kept
  uses_chain rest disjunction all = both_kept

  pub uses_form_bare : (rest : Option Rest) (f : FormTree) → UsesForm own rest (bare_form f) ↔ UsesForm own rest f
  uses_form_bare rest = every_bare_form (UsesFormNode own rest) record {
    at_true = tt;
    at_false = tt;
    at_atom = λ r args. both_and (stands_bare rest r args) (both_each (UsesTerm own rest) (UsesTerm own rest) bare args (uses_term_bare rest));
    at_equal = λ s t. both_and (uses_term_bare rest s) (uses_term_bare rest t);
    at_not = λ a. tt;
    at_chain = uses_chain rest;
    at_implies = λ a b. tt;
  }

  pub uses_out_bare : (rest : Option Rest) (o : OutTree) → UsesOut own rest (bare_out o) ↔ UsesOut own rest o
  uses_out_bare rest = every_bare_out (UsesOutNode own rest) record {
    at_give = uses_term_bare rest;
    at_if = λ f u v. uses_form_bare rest f;
  }
