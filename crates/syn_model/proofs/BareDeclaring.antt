-- A declaration may follow others just where it may with the places of all terms left out: nothing that is asked looks at a place.
use Rattle.std.proofs.Common.{◌≡◌, ◌≢◌, ◌↔◌, ◌⊎◌, ℕ, Bool, true, false, List, [], ◌∷◌, ◌++◌, All, Contains, Option, None, Some, fold, map, refl, sym, ◌∙◌, ap, subst, true≢false}
use Rattle.std.specs.List.{flat_map}
use Rattle.std.specs.Option.{option_map}
use Rattle.std.proofs.lemmas.List.{map-append}
use Rattle.syn_term.specs.declared.sorts.Sort.{Sort}
use Rattle.syn_term.specs.declared.sorts.Sort.TheVariants as sort
use Rattle.syn_term.specs.declared.sorts.Var.{Var}
use Rattle.syn_term.specs.Symbols.{SymbolTable, IsTaken, first_symbols}
use Rattle.syn_term.specs.Terms.{TermTree, bare, sort_of}
use Rattle.syn_form.specs.declared.trees.Binder.{Binder}
use Rattle.syn_form.specs.declared.trees.Mono.{Mono}
use Rattle.syn_form.specs.Plain.{IsPlainForm, IsPlainOut, IsSorted, given_sort}
use Rattle.syn_form.specs.PlainQuantified.{IsPlainQForm, binders_of}
use Rattle.syn_form.specs.Quantified.{bare_qform}
use Rattle.syn_form.specs.Trees.{FormTree, OutTree, QFormTree, bare_form, bare_out, form_vars, out_vars, term_vars}
use Rattle.syn_form.proofs.BareFacts.{binders_bare, both_along, both_kept, free_vars_bare, plain_bare, plain_out_bare, plain_qform_bare, sorted_bare}
use Rattle.syn_form.proofs.BareVars.{form_vars_bare, given_bare, out_vars_bare, term_vars_bare, vars_bare}
use Rattle.syn_form.proofs.Sorting.{sort_bare}
use Rattle.syn_model.specs.declared.decl.Decl.{Decl}
use Rattle.syn_model.specs.declared.decl.Decl.TheVariants as decl
use Rattle.syn_model.specs.BareTrees.{bare_decl}
use Rattle.syn_model.specs.Clauses.{HasArguments, turn_of}
use Rattle.syn_model.specs.Declaring.{AreAmong, Asks, AsksHead, AsksOrder, ComesInTime, IsMono, IsNumberedIn, IsOtherwiseFree, MayAxiom, MayDeclare, MayFunClause, MayMono, MayRelClause, is_clause, symbol_of_name}
use Rattle.syn_model.specs.Headings.{Heading, has_clauses, heading_after, heading_of, is_complete, is_whole}
use Rattle.syn_model.specs.Tables.{IsDeclared, mono_in, monos_of, other_name, other_names, table_after, table_of}
use Rattle.syn_model.specs.Theories.{MayBring}
use Rattle.syn_model.proofs.BareClauses.{all_bare, arguments_bare, turn_bare, uses_form_bare, uses_out_bare}

abbrev both_then : {A B C : Type 0} → (A ↔ B) → (B ↔ C) → A ↔ C
both_then f g = ((λ a. g.0 (f.0 a)), (λ c. f.1 (g.1 c)))

-- the table, the names and the rows
table_step : (table : SymbolTable) (d : Decl) → table_after table (bare_decl d) ≡ table_after table d
table_step table (decl.FunClause args body) = refl
table_step table (decl.RelClause args body) = refl
table_step table (decl.Order name args measure) = refl
table_step table (decl.Axiom name form) = refl
table_step table _ = refl

table_from : (table : SymbolTable) (ds : List Decl) → fold table_after table (map bare_decl ds) ≡ fold table_after table ds
table_from table [] = refl
table_from table (d ∷ ds) = ap (λ (z : SymbolTable). fold table_after z (map bare_decl ds)) (table_step table d) ∙ table_from (table_after table d) ds

pub table_bare : (ds : List Decl) → table_of (map bare_decl ds) ≡ table_of ds
table_bare = table_from first_symbols

flat_bare : {A : Type 0} (f : Decl → List A) → ((d : Decl) → f (bare_decl d) ≡ f d) → (ds : List Decl) → flat_map f (map bare_decl ds) ≡ flat_map f ds
flat_bare f same [] = refl
flat_bare {A} f same (d ∷ ds) = ap (λ (z : List A). z ++ flat_map f (map bare_decl ds)) (same d) ∙ ap (λ (z : List A). f d ++ z) (flat_bare f same ds)

name_same : (d : Decl) → other_name (bare_decl d) ≡ other_name d
name_same (decl.FunClause args body) = refl
name_same (decl.RelClause args body) = refl
name_same (decl.Order name args measure) = refl
name_same (decl.Axiom name form) = refl
name_same _ = refl

pub names_bare : (ds : List Decl) → other_names (map bare_decl ds) ≡ other_names ds
names_bare = flat_bare other_name name_same

mono_same : (d : Decl) → mono_in (bare_decl d) ≡ mono_in d
mono_same (decl.FunClause args body) = refl
mono_same (decl.RelClause args body) = refl
mono_same (decl.Order name args measure) = refl
mono_same (decl.Axiom name form) = refl
mono_same _ = refl

monos_bare : (ds : List Decl) → monos_of (map bare_decl ds) ≡ monos_of ds
monos_bare = flat_bare mono_in mono_same

-- the last heading
abbrev pub bare_heading : Heading → Heading
bare_heading h = record { declared = option_map bare_decl h.declared; arguments = map (map bare) h.arguments }

abbrev with_arguments : Option Decl → List (List TermTree) → Heading
with_arguments d all = record { declared = d; arguments = all }

after_bare : (h : Heading) (d : Decl) → heading_after (bare_heading h) (bare_decl d) ≡ bare_heading (heading_after h d)
after_bare h (decl.FunClause args body) = ap (with_arguments (option_map bare_decl h.declared)) (sym (map-append (map bare) h.arguments (args ∷ [])))
after_bare h (decl.RelClause args body) = ap (with_arguments (option_map bare_decl h.declared)) (sym (map-append (map bare) h.arguments (args ∷ [])))
after_bare h (decl.Order name args measure) = refl
after_bare h (decl.Axiom name form) = refl
after_bare h _ = refl

heading_from : (h : Heading) (ds : List Decl) → fold heading_after (bare_heading h) (map bare_decl ds) ≡ bare_heading (fold heading_after h ds)
heading_from h [] = refl
heading_from h (d ∷ ds) = ap (λ (z : Heading). fold heading_after z (map bare_decl ds)) (after_bare h d) ∙ heading_from (heading_after h d) ds

pub heading_bare : (ds : List Decl) → heading_of (map bare_decl ds) ≡ bare_heading (heading_of ds)
heading_bare = heading_from (record { declared = None; arguments = [] })

clauses_same : (o : Option Decl) → has_clauses (option_map bare_decl o) ≡ has_clauses o
clauses_same None = refl
clauses_same (Some (decl.FunClause args body)) = refl
clauses_same (Some (decl.RelClause args body)) = refl
clauses_same (Some (decl.Order name args measure)) = refl
clauses_same (Some (decl.Axiom name form)) = refl
clauses_same (Some _) = refl

complete_bare : (table : SymbolTable) (b : Bool) (clauses : List (List TermTree)) → is_complete table b (map (map bare) clauses) ≡ is_complete table b clauses
complete_bare table true clauses = all_bare table clauses
complete_bare table false clauses = refl

pub whole_bare : (ds : List Decl) → is_whole (map bare_decl ds) ≡ is_whole ds
whole_bare ds =
    ap (λ (t : SymbolTable). is_complete t (has_clauses (heading_of (map bare_decl ds)).declared) (heading_of (map bare_decl ds)).arguments) (table_bare ds)
    ∙ (ap (λ (h : Heading). is_complete (table_of ds) (has_clauses h.declared) h.arguments) (heading_bare ds)
    ∙ (ap (λ (b : Bool). is_complete (table_of ds) b (map (map bare) (heading_of ds).arguments)) (clauses_same (heading_of ds).declared)
    ∙ complete_bare (table_of ds) (has_clauses (heading_of ds).declared) (heading_of ds).arguments))

-- the declaration itself
brings_bare : (table : SymbolTable) (d : Decl) → MayBring table (bare_decl d) ↔ MayBring table d
brings_bare table (decl.FunClause args body) = both_kept
brings_bare table (decl.RelClause args body) = both_kept
brings_bare table (decl.Order name args measure) = both_kept
brings_bare table (decl.Axiom name form) = both_kept
brings_bare table _ = both_kept

clause_same : (d : Decl) → is_clause (bare_decl d) ≡ is_clause d
clause_same (decl.FunClause args body) = refl
clause_same (decl.RelClause args body) = refl
clause_same (decl.Order name args measure) = refl
clause_same (decl.Axiom name form) = refl
clause_same _ = refl

is_fun : Option Decl → Bool
is_fun (Some (decl.Fun name args result)) = true
is_fun _ = false

is_rel : Option Decl → Bool
is_rel (Some (decl.Rel name args)) = true
is_rel _ = false

fun_back : (o : Option Decl) (name : List ℕ) (args : List Sort) (result : Sort) → option_map bare_decl o ≡ Some (decl.Fun name args result) → o ≡ Some (decl.Fun name args result)
unfolding is_fun
fun_back (Some (decl.Fun n a r)) name args result e = e
fun_back _ name args result e = absurd (true≢false (sym (ap is_fun e)))

rel_back : (o : Option Decl) (name : List ℕ) (args : List Sort) → option_map bare_decl o ≡ Some (decl.Rel name args) → o ≡ Some (decl.Rel name args)
unfolding is_rel
rel_back (Some (decl.Rel n a)) name args e = e
rel_back _ name args e = absurd (true≢false (sym (ap is_rel e)))

module _ (ds : List Decl) where
  abbrev bares : List Decl
  bares = map bare_decl ds

  free_bare : (name : List ℕ) → IsOtherwiseFree bares name ↔ IsOtherwiseFree ds name
  free_bare name = both_along (λ (names : List (List ℕ)). Contains names name → ⊥) (other_names bares) (other_names ds) (names_bare ds)

  pub declared_bare : (name : List ℕ) → IsDeclared bares name ↔ IsDeclared ds name
  declared_bare name = both_then
      (both_along (λ (t : SymbolTable). IsTaken t name ⊎ Contains (other_names bares) name) (table_of bares) (table_of ds) (table_bare ds))
      (both_along (λ (names : List (List ℕ)). IsTaken (table_of ds) name ⊎ Contains names name) (other_names bares) (other_names ds) (names_bare ds))

  -- what is said of the table is said of the table of the bare declarations
  at_table : (P : SymbolTable → Type 0) → P (table_of bares) ↔ P (table_of ds)
  at_table P = both_along P (table_of bares) (table_of ds) (table_bare ds)

  all_free_bare : (names : List (List ℕ)) → All (IsOtherwiseFree bares) names ↔ All (IsOtherwiseFree ds) names
  all_free_bare names = both_along (λ (others : List (List ℕ)). All (λ name. Contains others name → ⊥) names) (other_names bares) (other_names ds) (names_bare ds)

  head_bare : (name : List ℕ) (args : List Sort) → AsksHead bares name args ↔ AsksHead ds name args
  head_bare name args = (
    (λ h. record { free = (free_bare name).0 h.free; few = h.few }),
    (λ h. record { free = (free_bare name).1 h.free; few = h.few }),
  )

  order_bare : (name : List ℕ) (args : List Sort) (measure : TermTree) → AsksOrder bares name args (bare measure) ↔ AsksOrder ds name args measure
  order_bare name args measure = (
    (λ h. record {
      free = (free_bare name).0 h.free;
      few = h.few;
      sorted = (sorted_bare (table_of ds) measure).0 ((at_table (λ t. IsSorted t (bare measure))).0 h.sorted);
      number = sym (sort_bare (table_of ds) measure) ∙ (at_table (λ t. sort_of t (bare measure) ≡ Some sort.Nat)).0 h.number;
      over = subst (All (IsNumberedIn args)) (term_vars_bare measure) h.over;
    }),
    (λ h. record {
      free = (free_bare name).1 h.free;
      few = h.few;
      sorted = (at_table (λ t. IsSorted t (bare measure))).1 ((sorted_bare (table_of ds) measure).1 h.sorted);
      number = (at_table (λ t. sort_of t (bare measure) ≡ Some sort.Nat)).1 (sort_bare (table_of ds) measure ∙ h.number);
      over = subst (All (IsNumberedIn args)) (sym (term_vars_bare measure)) h.over;
    }),
  )

  abbrev BoundIn : List (List ℕ) → List ℕ → List Binder → Type 0
  BoundIn others name = All (λ b. (Contains others b.name → ⊥) × (b.name ≢ name))

  axiom_bare : (name : List ℕ) (f : QFormTree) → MayAxiom bares name (bare_qform f) ↔ MayAxiom ds name f
  axiom_bare name f = (
    (λ h. record {
      named = h.named;
      free = λ c. h.free ((declared_bare name).1 c);
      plain = (plain_qform_bare (table_of ds) f).0 ((at_table (λ t. IsPlainQForm t (bare_qform f))).0 h.plain);
      closed = sym (free_vars_bare f) ∙ h.closed;
      bound = subst (λ (others : List (List ℕ)). BoundIn others name (binders_of f)) (names_bare ds) (subst (BoundIn (other_names bares) name) (binders_bare f) h.bound);
    }),
    (λ h. record {
      named = h.named;
      free = λ c. h.free ((declared_bare name).0 c);
      plain = (at_table (λ t. IsPlainQForm t (bare_qform f))).1 ((plain_qform_bare (table_of ds) f).1 h.plain);
      closed = free_vars_bare f ∙ h.closed;
      bound = subst (λ (others : List (List ℕ)). BoundIn others name (binders_of (bare_qform f))) (sym (names_bare ds)) (subst (BoundIn (other_names ds) name) (sym (binders_bare f)) h.bound);
    }),
  )

  abbrev Apart : Mono → List Mono → Type 0
  Apart m = All (λ o. (o.rel ≡ m.rel) × (o.sym ≡ m.sym) × (o.place ≡ m.place) → ⊥)

  mono_bare : (name : List ℕ) (m : Mono) → MayMono bares name m ↔ MayMono ds name m
  mono_bare name m = (
    (λ h. record {
      named = h.named;
      free = λ c. h.free ((declared_bare name).1 c);
      mono = (at_table (λ t. IsMono t m)).0 h.mono;
      new = subst (Apart m) (monos_bare ds) h.new;
    }),
    (λ h. record {
      named = h.named;
      free = λ c. h.free ((declared_bare name).0 c);
      mono = (at_table (λ t. IsMono t m)).1 h.mono;
      new = subst (Apart m) (sym (monos_bare ds)) h.new;
    }),
  )

  turns_bare : (args : List TermTree) → turn_of (table_of bares) (heading_of bares).arguments (map bare args) ≡ turn_of (table_of ds) (heading_of ds).arguments args
  turns_bare args =
      ap (λ (t : SymbolTable). turn_of t (heading_of bares).arguments (map bare args)) (table_bare ds)
      ∙ (ap (λ (h : Heading). turn_of (table_of ds) h.arguments (map bare args)) (heading_bare ds) ∙ turn_bare (table_of ds) (heading_of ds).arguments args)

  is_declared : (heading_of bares).declared ≡ option_map bare_decl (heading_of ds).declared
  is_declared = ap (λ (h : Heading). h.declared) (heading_bare ds)

  over_bare : (vs ws : List Var) (args : List TermTree) → vs ≡ ws → AreAmong vs (flat_map term_vars (map bare args)) ↔ AreAmong ws (flat_map term_vars args)
  over_bare vs ws args e = both_then
      (both_along (λ (z : List Var). AreAmong z (flat_map term_vars (map bare args))) vs ws e)
      (both_along (λ (z : List Var). AreAmong ws z) (flat_map term_vars (map bare args)) (flat_map term_vars args) (vars_bare args))

  fun_clause_bare : (args : List TermTree) (body : OutTree) → MayFunClause bares (map bare args) (bare_out body) ↔ MayFunClause ds args body
  fun_clause_bare args body = (
    (λ h. record {
      name = h.name;
      sorts = h.sorts;
      result = h.result;
      own = h.own;
      rest = h.rest;
      heading = fun_back (heading_of ds).declared h.name h.sorts h.result (sym is_declared ∙ h.heading);
      defined = (at_table (λ t. symbol_of_name t h.name ≡ Some h.own)).0 h.defined;
      turn = sym (turns_bare args) ∙ h.turn;
      arguments = (arguments_bare (table_of ds) h.sorts args).0 ((at_table (λ t. HasArguments t h.sorts (map bare args))).0 h.arguments);
      plain = (plain_out_bare (table_of ds) body).0 ((at_table (λ t. IsPlainOut t (bare_out body))).0 h.plain);
      sort = sym (given_bare (table_of ds) body) ∙ (at_table (λ t. given_sort t (bare_out body) ≡ Some h.result)).0 h.sort;
      over = (over_bare (out_vars (bare_out body)) (out_vars body) args (out_vars_bare body)).0 h.over;
      uses = (uses_out_bare h.own h.rest body).0 h.uses;
    }),
    (λ h. record {
      name = h.name;
      sorts = h.sorts;
      result = h.result;
      own = h.own;
      rest = h.rest;
      heading = is_declared ∙ ap (option_map bare_decl) h.heading;
      defined = (at_table (λ t. symbol_of_name t h.name ≡ Some h.own)).1 h.defined;
      turn = turns_bare args ∙ h.turn;
      arguments = (at_table (λ t. HasArguments t h.sorts (map bare args))).1 ((arguments_bare (table_of ds) h.sorts args).1 h.arguments);
      plain = (at_table (λ t. IsPlainOut t (bare_out body))).1 ((plain_out_bare (table_of ds) body).1 h.plain);
      sort = (at_table (λ t. given_sort t (bare_out body) ≡ Some h.result)).1 (given_bare (table_of ds) body ∙ h.sort);
      over = (over_bare (out_vars (bare_out body)) (out_vars body) args (out_vars_bare body)).1 h.over;
      uses = (uses_out_bare h.own h.rest body).1 h.uses;
    }),
  )

  rel_clause_bare : (args : List TermTree) (body : FormTree) → MayRelClause bares (map bare args) (bare_form body) ↔ MayRelClause ds args body
  rel_clause_bare args body = (
    (λ h. record {
      name = h.name;
      sorts = h.sorts;
      own = h.own;
      rest = h.rest;
      heading = rel_back (heading_of ds).declared h.name h.sorts (sym is_declared ∙ h.heading);
      defined = (at_table (λ t. symbol_of_name t h.name ≡ Some h.own)).0 h.defined;
      turn = sym (turns_bare args) ∙ h.turn;
      arguments = (arguments_bare (table_of ds) h.sorts args).0 ((at_table (λ t. HasArguments t h.sorts (map bare args))).0 h.arguments);
      plain = (plain_bare (table_of ds) body).0 ((at_table (λ t. IsPlainForm t (bare_form body))).0 h.plain);
      over = (over_bare (form_vars (bare_form body)) (form_vars body) args (form_vars_bare body)).0 h.over;
      uses = (uses_form_bare h.own h.rest body).0 h.uses;
    }),
    (λ h. record {
      name = h.name;
      sorts = h.sorts;
      own = h.own;
      rest = h.rest;
      heading = is_declared ∙ ap (option_map bare_decl) h.heading;
      defined = (at_table (λ t. symbol_of_name t h.name ≡ Some h.own)).1 h.defined;
      turn = turns_bare args ∙ h.turn;
      arguments = (at_table (λ t. HasArguments t h.sorts (map bare args))).1 ((arguments_bare (table_of ds) h.sorts args).1 h.arguments);
      plain = (at_table (λ t. IsPlainForm t (bare_form body))).1 ((plain_bare (table_of ds) body).1 h.plain);
      over = (over_bare (form_vars (bare_form body)) (form_vars body) args (form_vars_bare body)).1 h.over;
      uses = (uses_form_bare h.own h.rest body).1 h.uses;
    }),
  )

  asks_bare : (d : Decl) → Asks bares (bare_decl d) ↔ Asks ds d
  asks_bare (decl.ListSort name nil cons item) = all_free_bare (name ∷ nil ∷ cons ∷ [])
  asks_bare (decl.TupleSort name make parts) = all_free_bare (name ∷ make ∷ [])
  asks_bare (decl.Fun name args result) = head_bare name args
  asks_bare (decl.Rel name args) = head_bare name args
  asks_bare (decl.FunClause args body) = fun_clause_bare args body
  asks_bare (decl.RelClause args body) = rel_clause_bare args body
  asks_bare (decl.Order name args measure) = order_bare name args measure
  asks_bare (decl.Axiom name f) = axiom_bare name f
  asks_bare (decl.Monotone name m) = mono_bare name m

  time_at : (b : Bool) → ComesInTime bares b ↔ ComesInTime ds b
  time_at true = both_kept
  time_at false = both_along (λ (w : Bool). w ≡ true) (is_whole bares) (is_whole ds) (whole_bare ds)

  -- a declaration may follow others just where it may without places
  pub may_declare_bare : (d : Decl) → MayDeclare bares (bare_decl d) ↔ MayDeclare ds d
  may_declare_bare d = (
    (λ h. record {
      brings = (brings_bare (table_of ds) d).0 ((at_table (λ t. MayBring t (bare_decl d))).0 h.brings);
      asks = (asks_bare d).0 h.asks;
      in_time = (time_at (is_clause d)).0 (subst (ComesInTime bares) (clause_same d) h.in_time);
    }),
    (λ h. record {
      brings = (at_table (λ t. MayBring t (bare_decl d))).1 ((brings_bare (table_of ds) d).1 h.brings);
      asks = (asks_bare d).1 h.asks;
      in_time = subst (ComesInTime bares) (sym (clause_same d)) ((time_at (is_clause d)).1 h.in_time);
    }),
  )
