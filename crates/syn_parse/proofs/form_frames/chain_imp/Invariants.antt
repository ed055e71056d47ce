use Rattle.std.proofs.Common.{◌≡◌, length}
use Rattle.syn_parse.specs.inner.FormMachine as machine
use Rattle.syn_parse.proofs.form_frames.chain_imp.Given as goal

abbrev pub invariant-loop-left : goal.invariant-loop-left
invariant-loop-left l = machine.chain_imp l.lefts l.last ≡ machine.chain_imp l.fn.lefts l.fn.u

abbrev pub decreases-loop-left : goal.decreases-loop-left
decreases-loop-left l = length l.lefts
