use Rattle.std.proofs.Common.{map, take}
use Rattle.syn_term.specs.Bank.{Extends}
use Rattle.syn_lex.specs.Stepping.{Lead}
use Rattle.syn_files.specs.SpecLines.{SpecLine, nothing}
use Rattle.syn_files.specs.inner.SpecTelling.{IsOver, state_of}
use Rattle.syn_files.proofs.spec_text.spec_in.Given as goal

abbrev pub invariant-loop-i : goal.invariant-loop-i
invariant-loop-i l = record {
  led : Lead (SpecLine l.theory.decls) nothing (take l.i (map (λ line. line.now) l.cut.lines.items)) (state_of l.progress.name l.progress.spec);
  over : IsOver l.theory.decls l.progress.spec;
  extends : Extends l.initial.bank l.bank;
}
