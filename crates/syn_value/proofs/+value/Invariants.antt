use Rattle.std.proofs.Common.{◌≤◌}
use Rattle.syn_value.specs.declared.nodes.Seq.{size-Seq}
use Rattle.syn_value.proofs.+value.Given as goal

abbrev pub invariant-nodes::Seq::drop-loop-self : goal.invariant-nodes::Seq::drop-loop-self
invariant-nodes::Seq::drop-loop-self l = size-Seq l.self ≤ size-Seq l.fn.self
