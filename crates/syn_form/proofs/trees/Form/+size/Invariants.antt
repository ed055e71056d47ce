use Rattle.std.proofs.Common.{◌≡◌, ◌+◌, min, take}
use Rattle.std.specs.List.{sum_by}
use Rattle.syn_form.specs.Trees.{form_nodes}
use Rattle.syn_form.proofs.trees.Form.+size.Given as goal

abbrev pub decreases-size : goal.decreases-size
decreases-size l = goal.size-size l

abbrev pub invariant-loop-part : goal.invariant-loop-part
invariant-loop-part l = l.total ≡ min (1 + sum_by form_nodes (take l.part-index l.part-items)) (l.cap + 1)
