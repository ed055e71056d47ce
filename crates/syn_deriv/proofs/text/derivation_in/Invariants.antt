use Rattle.std.proofs.Common.{None, map, take}
use Rattle.syn_term.specs.Bank.{Extends}
use Rattle.syn_lex.specs.Stepping.{Lead}
use Rattle.syn_deriv.specs.DerivationLines.{DerivationLine}
use Rattle.syn_deriv.specs.inner.Telling.{AreLinesOf, seen}
use Rattle.syn_deriv.proofs.text.derivation_in.Given as goal

abbrev pub invariant-loop-i : goal.invariant-loop-i
invariant-loop-i l = record {
  led : Lead (DerivationLine l.start) None (take l.i (map (λ line. line.now) l.cut.lines.items)) (seen l.progress.derivation);
  rows : AreLinesOf l.start l.bank l.progress.derivation;
  extends : Extends l.initial.bank l.bank;
}
