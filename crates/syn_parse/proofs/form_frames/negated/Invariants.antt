use Rattle.std.proofs.Common.{◌≡◌, ◌-◌}
use Rattle.syn_parse.specs.inner.FormMachine as machine
use Rattle.syn_parse.proofs.form_frames.negated.Given as goal

abbrev pub invariant-loop : goal.invariant-loop
invariant-loop l = machine.negated (l.nots - l.counter) l.last ≡ machine.negated l.fn.nots l.fn.u
