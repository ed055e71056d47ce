use Rattle.std.proofs.Common.{◌≡◌, false, take}
use Rattle.std.specs.List.{list_any}
use Rattle.syn_form.specs.declared.trees.Form.TheViews as view
use Rattle.syn_form.specs.Same.{same_form}
use Rattle.syn_form.proofs.joins.contains_negation_of.Given as goal

abbrev pub invariant-loop-g : goal.invariant-loop-g
invariant-loop-g l = list_any (λ g. same_form g (view.Not l.f)) (take l.g-index l.fs) ≡ false
