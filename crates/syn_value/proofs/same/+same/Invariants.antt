use Rattle.std.proofs.Common.{◌≡◌, ◌↔◌, ◌≤◌}
use Rattle.syn_value.specs.inner.Nodes.{items}
use Rattle.syn_value.specs.declared.nodes.Seq.{size-Seq}
use Rattle.syn_value.proofs.same.+same.Given as goal

abbrev pub decreases-same_items : goal.decreases-same_items
decreases-same_items l = goal.size-same_items l

abbrev pub decreases-same_nodes : goal.decreases-same_nodes
decreases-same_nodes l = goal.size-same_nodes l

abbrev pub invariant-same_items-loop-xs : goal.invariant-same_items-loop-xs
invariant-same_items-loop-xs l = (size-Seq l.xs ≤ size-Seq l.fn.a) × ((items l.xs ≡ items l.ys) ↔ (items l.fn.a ≡ items l.fn.b))
