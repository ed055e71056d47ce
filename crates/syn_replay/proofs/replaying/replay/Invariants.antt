use Rattle.std.proofs.Common.{◌≡◌, take}
use Rattle.syn_term.specs.Bank.{Extends}
use Rattle.syn_step.specs.Acceptance.{FirstFollow, judged}
use Rattle.syn_replay.proofs.replaying.replay.Given as goal

abbrev pub invariant-loop-i : goal.invariant-loop-i
invariant-loop-i l = record {
  -- the simplified rows of the lines so far
  rows : l.rows ≡ judged (take l.i l.lines);
  follow : FirstFollow l.start l.lines l.i;
  extends : Extends l.fn.bank l.bank;
}
