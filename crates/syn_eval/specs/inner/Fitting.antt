-- For private contracts: values that are put down behind others.
use Rattle.std.specs.Prelude.{◌≡◌, Bool, true, false, List, [], ◌∷◌, ◌++◌, Option, None, Some}
use Rattle.syn_value.specs.declared.tree.ValueTree.{ValueTree}
use Rattle.syn_value.specs.declared.tree.ValueTree.TheViews as view

-- these values are there and were put down, or they aren't there
abbrev pub PutsDown : List ValueTree → List ValueTree → Option (List ValueTree) → Bool → Type 0
PutsDown before after o true = (values : List ValueTree) × (o ≡ Some values) × (after ≡ before ++ values)
PutsDown before after o false = o ≡ None

-- the first of some values, and the list of the others
abbrev pub first_and_rest : List ValueTree → Option (List ValueTree)
first_and_rest [] = None
first_and_rest (v ∷ vs) = Some (v ∷ view.List vs ∷ [])
