use Rattle.std.proofs.Common.{◌≡◌, length}
use Rattle.syn_parse.specs.inner.FormMachine as machine
use Rattle.syn_parse.proofs.form_frames.under.Given as goal

abbrev pub invariant-loop-inner : goal.invariant-loop-inner
invariant-loop-inner l = machine.under l.prefixes l.last ≡ machine.under l.fn.prefixes l.fn.u

abbrev pub decreases-loop-inner : goal.decreases-loop-inner
decreases-loop-inner l = length l.prefixes
