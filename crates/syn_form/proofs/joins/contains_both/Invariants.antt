use Rattle.std.proofs.Common.{◌≡◌, false, take}
use Rattle.std.specs.List.{list_any}
use Rattle.syn_form.specs.declared.trees.Form.TheViews as view
use Rattle.syn_form.specs.Simplification.{has_form}
use Rattle.syn_form.proofs.joins.contains_both.Given as goal

abbrev pub invariant-loop-f : goal.invariant-loop-f
invariant-loop-f l = list_any (λ f. has_form l.fs (view.Not f)) (take l.f-index l.fs) ≡ false
