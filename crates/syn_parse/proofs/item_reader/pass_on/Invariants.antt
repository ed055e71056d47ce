use Rattle.std.proofs.Common.{◌≡◌, length}
use Rattle.syn_parse.specs.inner.Feeding.{feed}
use Rattle.syn_parse.proofs.item_reader.pass_on.Given as goal

abbrev pub invariant-loop-item : goal.invariant-loop-item
invariant-loop-item g l = feed g.S.Sink.takes l.items l.sink ≡ feed g.S.Sink.takes l.fn.items l.fn.sink

abbrev pub decreases-loop-item : goal.decreases-loop-item
decreases-loop-item g l = length l.items
