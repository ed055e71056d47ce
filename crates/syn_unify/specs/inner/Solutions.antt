-- Pairs of terms that are to become one, what solves them, and what a substitution that was reached from them keeps.
use Rattle.std.specs.Prelude.{◌≡◌, ◌⊎◌, ℕ, ◌+◌, ◌*◌, ◌<◌, zero, suc, Bool, true, false, if◌then◌else◌, List, [], ◌∷◌, ◌++◌, map, length, All, Contains, Option, None, Some}
use Rattle.std.specs.Option.{unwrap_or}
use Rattle.std.specs.List.{flat_map}
use Rattle.syn_term.specs.Bank.{Kept, Belongs}
use Rattle.syn_term.specs.declared.sorts.SymId.{SymId}
use Rattle.syn_term.specs.declared.sorts.Var.{Var}
use Rattle.syn_term.specs.declared.term.Node.{Node, out-Node}
use Rattle.syn_term.specs.declared.term.Node.TheOpen.{Node-F}
use Rattle.syn_term.specs.Symbols.{SymbolTable}
use Rattle.syn_term.specs.Terms.{TermTree, variable_tree, bare, nodes, sort_of}
use Rattle.syn_form.specs.Plain.{IsSorted}
use Rattle.syn_form.specs.Trees.{term_vars}
use Rattle.syn_form.specs.Substitutions.{Binding, Substitution, KeepsSorts, image, same_var}
use Rattle.syn_unify.specs.declared.bindings.Bound.{Bound}
use Rattle.syn_unify.specs.declared.pairs.Pair.{Pair}
use Rattle.syn_unify.specs.Bindings.{BindsOnce, bound_to}
use Rattle.syn_unify.specs.inner.Changes.{seen, under}

-- τ makes the two terms one
abbrev pub Solves : (Var → TermTree) → Pair → Type 0
Solves τ p = under τ p.left ≡ under τ p.right

-- τ is σ and then τ once more
abbrev pub IsAfter : (Var → TermTree) → (Var → TermTree) → Type 0
IsAfter τ σ = (v : Var) → bare (τ v) ≡ under τ (σ v)

-- whether a substitution has a binding for the variable
abbrev pub is_bound : Substitution → Var → Bool
is_bound [] v = false
is_bound (b ∷ bs) v = if same_var b.var v then true else is_bound bs v

-- one variable is bound, and everything else stays
abbrev pub one : Var → TermTree → Substitution
one x t = record { var = x; term = t } ∷ []

abbrev pub bare_binding : Binding → Binding
bare_binding b = record { var = b.var; term = bare b.term }

-- the binding with its term's variables replaced
abbrev pub replaced : Substitution → Binding → Binding
replaced ρ b = record { var = b.var; term = under (image ρ) b.term }

-- the binding with x replaced in its term
abbrev pub after_one : Var → TermTree → Binding → Binding
after_one x t = replaced (one x t)

-- σ' is the substitution σ with x bound to t, and x replaced in its terms
pub record IsBound (x : Var) (t : TermTree) (σ σ' : Substitution) : Type 0 where
  pub rest : Substitution
  pub is : σ' ≡ record { var = x; term = t } ∷ rest
  pub same : map bare_binding rest ≡ map (after_one x t) σ

abbrev pub Within : List Var → TermTree → Type 0
Within vars t = (v : Var) → Contains (term_vars t) v → Contains vars v

-- the term is sorted, and its variables are among these
abbrev pub IsFitTerm : SymbolTable → List Var → TermTree → Type 0
IsFitTerm table vars t = IsSorted table t × Within vars t

abbrev pub IsFit : SymbolTable → List Var → Pair → Type 0
IsFit table vars p = IsFitTerm table vars p.left × IsFitTerm table vars p.right

abbrev pub OwnBinding : List Var → Binding → Type 0
OwnBinding vars b = Contains vars b.var × Within vars b.term

-- no variable of the term is bound
abbrev pub IsFree : Substitution → TermTree → Type 0
IsFree σ t = (v : Var) → Contains (term_vars t) v → is_bound σ v ≡ false

-- a substitution and the pairs that are left, reached from the first pairs: both have the same solutions
pub record Reached (table : SymbolTable) (first : List Pair) (vars : List Var) (σ : Substitution) (left : List Pair) : Type 0 where
  pub to : (τ : Var → TermTree) → All (Solves τ) first → IsAfter τ (image σ) × All (Solves τ) left
  pub from : (τ : Var → TermTree) → IsAfter τ (image σ) → All (Solves τ) left → All (Solves τ) first
  pub closed : All (λ b. IsFree σ b.term) σ
  pub keeps : KeepsSorts table σ
  pub own : All (OwnBinding vars) σ
  pub once : BindsOnce σ
  pub fit : All (IsFit table vars) left

abbrev pub NoneSolves : SymbolTable → List Pair → Type 0
NoneSolves table first = (τ : Substitution) → KeepsSorts table τ → All (Solves (image τ)) first → ⊥

-- the arguments in pairs
abbrev pub paired : List TermTree → List TermTree → List Pair
paired (s ∷ ss) (t ∷ ts) = record { left = s; right = t } ∷ paired ss ts
paired _ _ = []

abbrev top_layer : Substitution → TermTree → Node-F Node → TermTree
top_layer σ t (Node-F.Var place v) = unwrap_or (bound_to σ v) t
top_layer σ t (Node-F.App place f args) = t

-- the term, or the one that it is bound to where it is a variable
abbrev pub top_of : Substitution → TermTree → TermTree
top_of σ t = top_layer σ t (out-Node t)

-- a number for a count of variables that are not bound and a count of nodes: a variable fewer outweighs a square
abbrev pub rank : ℕ → ℕ → ℕ
rank zero n = n
rank (suc v) n = 1 + n + rank v (n * n)

-- how many of these variables have no binding
abbrev pub unbound : Substitution → List Var → ℕ
unbound σ [] = 0
unbound σ (v ∷ vs) = (if is_bound σ v then 0 else 1) + unbound σ vs

-- the nodes of the pairs, as the substitution makes them
abbrev pub work : Substitution → List Pair → ℕ
work σ [] = 0
work σ (p ∷ ps) = nodes (under (image σ) p.left) + nodes (under (image σ) p.right) + work σ ps

-- the measure of the loop
abbrev pub ahead : List Var → Substitution → List Pair → ℕ
ahead vars σ ps = rank (unbound σ vars) (work σ ps)

-- the same solutions, and less ahead
pub record Steps (table : SymbolTable) (σ : Substitution) (left : List Pair) (pair : Pair) (σ' : Substitution) (left' : List Pair) (first : List Pair) (vars : List Var) : Type 0 where
  pub reached : Reached table first vars σ' left'
  pub less : ahead vars σ' left' < ahead vars σ (left ++ pair ∷ [])

-- what a call says that takes one pair from the pairs: true, with the same solutions, or false, and there are none
abbrev pub Stepped : SymbolTable → Substitution → List Pair → Pair → Substitution → List Pair → Bool → Type 0
Stepped table σ left pair σ' left' true = (first : List Pair) (vars : List Var) → Reached table first vars σ (left ++ pair ∷ []) → Steps table σ left pair σ' left' first vars
Stepped table σ left pair σ' left' false = (first : List Pair) (vars : List Var) → Reached table first vars σ (left ++ pair ∷ []) → NoneSolves table first

-- how a variable that isn't bound meets a term in which none is: true where it is the term or was bound to it, false where
-- it can't be
abbrev pub Met : SymbolTable → Var → TermTree → Substitution → Substitution → Bool → Type 0
Met table x u σ σ' true = ((bare u ≡ variable_tree x) × (σ' ≡ σ)) ⊎ ((sort_of table u ≡ Some x.sort) × (Contains (term_vars u) x → ⊥) × IsBound x u σ σ')
Met table x u σ σ' false = (sort_of table u ≡ Some x.sort → ⊥) ⊎ ((bare u ≡ variable_tree x → ⊥) × Contains (term_vars u) x)

-- the same for a term in which variables may be bound: what comes of it meets the variable
abbrev pub Meets : SymbolTable → Var → TermTree → Substitution → Substitution → Bool → Type 0
Meets table x t σ σ' b = (u : TermTree) × (bare u ≡ under (image σ) t) × Met table x u σ σ' b

-- how two symbols with arguments meet: true where they are taken apart, false where nothing makes them one
abbrev pub Parted : SymId → List TermTree → SymId → List TermTree → List Pair → List Pair → Bool → Type 0
Parted f xs g ys left left' true = (f ≡ g) × (length xs ≡ length ys) × (left' ≡ left ++ paired xs ys)
Parted f xs g ys left left' false = (f ≡ g → ⊥) ⊎ (length xs ≡ length ys → ⊥)

abbrev pub Solved : SymbolTable → List Pair → List Var → Option (List Bound) → Type 0
Solved table first vars None = NoneSolves table first
Solved table first vars (Some bound) = Reached table first vars (seen bound) []

-- the same where a Bool says whether there is a solution
abbrev pub Ended : SymbolTable → List Pair → List Var → List Bound → Bool → Type 0
Ended table first vars bound false = NoneSolves table first
Ended table first vars bound true = Reached table first vars (seen bound) []

abbrev pub SortedPair : SymbolTable → Pair → Type 0
SortedPair table p = IsSorted table p.left × IsSorted table p.right

-- the variables of the pairs
abbrev pub vars_of : List Pair → List Var
vars_of = flat_map (λ p. term_vars p.left ++ term_vars p.right)

-- both terms belong to the bank
abbrev pub PairBelongs : Kept → Pair → Type 0
PairBelongs bank p = Belongs bank p.left × Belongs bank p.right
