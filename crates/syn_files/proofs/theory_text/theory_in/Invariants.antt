use Rattle.std.proofs.Common.{map, take}
use Rattle.syn_term.specs.Bank.{Extends}
use Rattle.syn_files.specs.inner.Telling.{seen}
use Rattle.syn_files.proofs.LoopLaws.{LedTo}
use Rattle.syn_files.proofs.theory_text.theory_in.Given as goal

abbrev pub invariant-loop-i : goal.invariant-loop-i
invariant-loop-i l = record {
  led : LedTo (take l.i (map (λ line. line.now) l.cut.lines.items)) (seen l.progress.theory);
  extends : Extends l.initial.bank l.bank;
}
