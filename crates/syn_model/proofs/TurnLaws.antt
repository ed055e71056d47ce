-- The last variable among arguments, and that no clause comes behind two.
use Rattle.std.proofs.Common.{◌≡◌, ℕ, ◌+◌, ◌<◌, ◌≤◌, List, [], ◌∷◌, ◌++◌, All, Option, None, Some, length, take, get_or, refl, sym, ◌∙◌, ap, arith}
use Rattle.std.specs.List.{flat_map}
use Rattle.std.proofs.lemmas.Grind.{flat_map-append}
use Rattle.std.proofs.lemmas.List.{append-nil, take_all, take_more}
use Rattle.std.proofs.lemmas.List.Elements.{All-head, All-tail}
use Rattle.syn_term.specs.declared.sorts.SymId.{SymId}
use Rattle.syn_term.specs.declared.sorts.Var.{Var}
use Rattle.syn_term.specs.declared.term.Place.{Place}
use Rattle.syn_term.specs.declared.term.Node.TheViews as view
use Rattle.syn_term.specs.Symbols.{SymbolTable}
use Rattle.syn_term.specs.Terms.{TermTree}
use Rattle.syn_term.proofs.Trees.{fold-App}
use Rattle.syn_form.specs.Trees.{term_vars, term_vars_step}
use Rattle.syn_form.proofs.Lists.{all_of-map}
use Rattle.syn_model.specs.declared.decl.Decl.{Decl}
use Rattle.syn_model.specs.Clauses.{last_var, turn_of}
use Rattle.syn_model.specs.inner.Views.{IsClause, clause_args, later}
use Rattle.syn_model.proofs.HeadingLaws.{clause_one}

-- the variables of a symbol with arguments are those of the arguments
pub application_vars : (t : TermTree) (p : Place) (f : SymId) (args xs : List TermTree) → t ≡ view.App p f args → xs ≡ args → term_vars t ≡ flat_map term_vars xs
application_vars t p f args xs is same = ap term_vars is ∙ (fold-App term_vars_step p f args ∙ (all_of-map term_vars args ∙ ap (flat_map term_vars) (sym same)))

-- the variables of one term more
pub vars_more : (ts : List TermTree) (i : ℕ) (d t : TermTree) → i < length ts → t ≡ get_or ts i d → flat_map term_vars (take (i + 1) ts) ≡ flat_map term_vars (take i ts) ++ term_vars t
vars_more ts i d t lt at =
    let next : take (i + 1) ts ≡ take i ts ++ t ∷ [] = take_more ts i d lt ∙ ap (λ (z : TermTree). take i ts ++ z ∷ []) (sym at) in
    ap (flat_map term_vars) next ∙ (flat_map-append term_vars (take i ts) (t ∷ []) ∙ ap (λ (z : List Var). flat_map term_vars (take i ts) ++ z) (append-nil (term_vars t)))

later_none : (o : Option Var) → o ≡ later None o
later_none None = refl
later_none (Some v) = refl

last_later : (x y : Var) (ys : List Var) → last_var (y ∷ ys) ≡ later (Some x) (last_var (y ∷ ys))
last_later x y [] = refl
last_later x y (z ∷ zs) = last_later x z zs

last_append : (xs ys : List Var) → last_var (xs ++ ys) ≡ later (last_var xs) (last_var ys)
last_append [] ys = later_none (last_var ys)
last_append (x ∷ []) [] = refl
last_append (x ∷ []) (y ∷ ys) = last_later x y ys
last_append (x ∷ z ∷ xs) ys = last_append (z ∷ xs) ys

-- the last variable of one argument more
pub last_next : (ts : List TermTree) (i : ℕ) (d t : TermTree) (found one next : Option Var) → i < length ts → t ≡ get_or ts i d → found ≡ last_var (flat_map term_vars (take i ts)) → one ≡ last_var (term_vars t) → next ≡ later found one → next ≡ last_var (flat_map term_vars (take (i + 1) ts))
last_next ts i d t found one next lt at is one_is next_is =
    next_is ∙ (ap (λ (z : Option Var). later z one) is ∙ (ap (later (last_var (flat_map term_vars (take i ts)))) one_is ∙ sym (ap last_var (vars_more ts i d t lt at) ∙ last_append (flat_map term_vars (take i ts)) (term_vars t))))

-- that of all arguments is that of the term
pub last_whole : (t : TermTree) (p : Place) (f : SymId) (args xs : List TermTree) (i : ℕ) (found : Option Var) → t ≡ view.App p f args → xs ≡ args → length xs ≤ i → found ≡ last_var (flat_map term_vars (take i xs)) → found ≡ last_var (term_vars t)
last_whole t p f args xs i found is same end h =
    h ∙ (ap (λ (z : List TermTree). last_var (flat_map term_vars z)) (take_all i xs end) ∙ ap last_var (sym (application_vars t p f args xs is same)))

-- no clause comes behind two others
pub no_third : (table : SymbolTable) (ds : List Decl) (args : List TermTree) → 2 ≤ length ds → All IsClause ds → None ≡ turn_of table (flat_map clause_args ds) args
no_third table [] args two all = absurd (omega arith)
no_third table (d ∷ []) args two all = absurd (omega arith)
no_third table (d ∷ e ∷ ds) args two all =
    let rest = flat_map clause_args ds in
    let a = clause_one d (All-head IsClause d (e ∷ ds) all) in
    let b = clause_one e (All-head IsClause e ds (All-tail IsClause d (e ∷ ds) all)) in
    let is : flat_map clause_args (d ∷ e ∷ ds) ≡ a.0 ∷ (b.0 ∷ rest) = ap (λ (z : List (List TermTree)). z ++ (clause_args e ++ rest)) a.1 ∙ ap (λ (z : List (List TermTree)). a.0 ∷ (z ++ rest)) b.1 in
    sym (ap (λ (z : List (List TermTree)). turn_of table z args) is)
