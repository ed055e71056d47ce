-- Public. Truth of formulas under an assignment of truth values to atoms and equalities, by classical propositional logic.
use Rattle.std.specs.Prelude.{◌≡◌, Bool, true, false, not, ◌||◌, List, map, if◌then◌else◌}
use Rattle.std.specs.List.{list_all, list_any}
use Rattle.syn_term.specs.declared.sorts.SymId.{SymId}
use Rattle.syn_term.specs.Terms.{TermTree, bare}
use Rattle.syn_form.specs.declared.trees.Form.{fold-Form}
use Rattle.syn_form.specs.declared.trees.Form.TheOpen.{Form-F}
use Rattle.syn_form.specs.declared.trees.Out.{fold-Out}
use Rattle.syn_form.specs.declared.trees.Out.TheOpen.{Out-F}
use Rattle.syn_form.specs.Trees.{FormTree, OutTree}

-- a truth value for each atom and for each equality, as trees without places
pub record Assignment : Type 0 where
  pub atom : SymId → List TermTree → Bool
  pub equality : TermTree → TermTree → Bool

-- each equality of a tree with itself is true
abbrev pub IsReflexive : Assignment → Type 0
IsReflexive a = (t : TermTree) → a.equality t t ≡ true

abbrev pub truth_value_step : Assignment → Form-F Bool → Bool
truth_value_step a Form-F.True = true
truth_value_step a Form-F.False = false
truth_value_step a (Form-F.Atom r args) = a.atom r (map bare args)
truth_value_step a (Form-F.Equal s t) = a.equality (bare s) (bare t)
truth_value_step a (Form-F.Not x) = not x
truth_value_step a (Form-F.And all) = list_all (λ x. x) all
truth_value_step a (Form-F.Or all) = list_any (λ x. x) all
truth_value_step a (Form-F.Implies x y) = not x || y

-- the truth value of a formula
abbrev pub truth_value : Assignment → FormTree → Bool
truth_value a = fold-Form Bool (truth_value_step a)

abbrev pub given_step : Assignment → Out-F TermTree → TermTree
given_step a (Out-F.Give t) = t
given_step a (Out-F.If f u v) = if truth_value a f then u else v

-- the term that an output gives
abbrev pub given : Assignment → OutTree → TermTree
given a = fold-Out TermTree (given_step a)
