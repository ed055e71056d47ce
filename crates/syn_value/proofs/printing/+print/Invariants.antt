use Rattle.std.proofs.Common.{◌≡◌, ◌≤◌, false, ◌++◌, string_bytes}
use Rattle.syn_value.specs.inner.Nodes.{items}
use Rattle.syn_value.specs.inner.Printing.{next_items}
use Rattle.syn_value.specs.declared.nodes.Seq.{size-Seq}
use Rattle.syn_value.proofs.printing.+print.Given as goal

abbrev pub decreases-put_items : goal.decreases-put_items
decreases-put_items l = goal.size-put_items l

abbrev pub decreases-put_node : goal.decreases-put_node
decreases-put_node l = goal.size-put_node l

abbrev pub invariant-put_items-loop-out : goal.invariant-put_items-loop-out
invariant-put_items-loop-out l = (size-Seq l.rest ≤ size-Seq l.fn.seq) × (string_bytes l.out ++ next_items l.inside (items l.rest) ≡ string_bytes l.initial.out ++ next_items false (items l.fn.seq))
