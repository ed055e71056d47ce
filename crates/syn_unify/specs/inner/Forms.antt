-- Formulas that are to become one: the pairs of their terms that have to be solved.
use Rattle.std.specs.Prelude.{◌≡◌, Bool, true, false, List, ◌++◌, map, All, Contains}
use Rattle.syn_term.specs.declared.sorts.Var.{Var}
use Rattle.syn_term.specs.Terms.{TermTree}
use Rattle.syn_form.specs.Inputs.{on_terms}
use Rattle.syn_form.specs.Trees.{FormTree, OutTree}
use Rattle.syn_unify.specs.declared.pairs.Pair.{Pair}
use Rattle.syn_unify.specs.OutTerms.{out_on_terms}
use Rattle.syn_unify.specs.inner.Changes.{under}
use Rattle.syn_unify.specs.inner.Solutions.{Solves}

-- the formula with each variable replaced, its terms without places
abbrev pub form_under : (Var → TermTree) → FormTree → FormTree
form_under τ = on_terms (under τ)

-- the same for an output
abbrev pub out_under : (Var → TermTree) → OutTree → OutTree
out_under τ = out_on_terms (under τ)

-- τ makes the two formulas one
abbrev pub AreOne : FormTree → FormTree → (Var → TermTree) → Type 0
AreOne f g τ = form_under τ f ≡ form_under τ g

-- τ makes the formulas of two lists one, each with the one at its place
abbrev pub AreAllOne : List FormTree → List FormTree → (Var → TermTree) → Type 0
AreAllOne fs gs τ = map (form_under τ) fs ≡ map (form_under τ) gs

-- τ makes the formula one with each of the others
abbrev pub IsOneWith : FormTree → List FormTree → (Var → TermTree) → Type 0
IsOneWith f gs τ = All (λ g. form_under τ f ≡ form_under τ g) gs

-- τ makes each two of the formulas one
abbrev pub AreEachOne : List FormTree → (Var → TermTree) → Type 0
AreEachOne fs τ = (f g : FormTree) → Contains fs f → Contains fs g → form_under τ f ≡ form_under τ g

-- a pair of one of these terms and one of those
abbrev pub IsOf : List TermTree → List TermTree → Pair → Type 0
IsOf xs ys p = Contains xs p.left × Contains ys p.right

-- pairs of these terms and those were put behind the others, and they are solved just where this holds
pub record Opened (One : (Var → TermTree) → Type 0) (xs ys : List TermTree) (left left' : List Pair) : Type 0 where
  pub pairs : List Pair
  pub is : left' ≡ left ++ pairs
  pub to : (τ : Var → TermTree) → One τ → All (Solves τ) pairs
  pub from : (τ : Var → TermTree) → All (Solves τ) pairs → One τ
  pub parts : All (IsOf xs ys) pairs

-- what a call says that opens two formulas: true, with such pairs, or false, and it never holds
abbrev pub OpenedTo : ((Var → TermTree) → Type 0) → List TermTree → List TermTree → List Pair → List Pair → Bool → Type 0
OpenedTo One xs ys left left' true = Opened One xs ys left left'
OpenedTo One xs ys left left' false = (τ : Var → TermTree) → One τ → ⊥
