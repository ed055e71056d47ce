use Rattle.std.proofs.Common.{◌≡◌, length}
use Rattle.syn_parse.specs.inner.OutMachine as machine
use Rattle.syn_parse.proofs.out_reader.OutReader.came.Given as goal

abbrev pub invariant-loop-arm : goal.invariant-loop-arm
invariant-loop-arm l = machine.came l.self.arms l.last ≡ machine.came l.fn.self.arms l.fn.u

abbrev pub decreases-loop-arm : goal.decreases-loop-arm
decreases-loop-arm l = length l.self.arms
