use Rattle.std.proofs.Common.{map, take}
use Rattle.syn_term.specs.Bank.{Extends}
use Rattle.syn_lex.specs.Stepping.{Lead}
use Rattle.syn_files.specs.ProgramLines.{ProgramLine, nothing}
use Rattle.syn_files.specs.inner.ProgramTelling.{IsHeadOver, IsProgramOver, program_state}
use Rattle.syn_files.proofs.program_text.program_in.Given as goal

abbrev pub invariant-loop-i : goal.invariant-loop-i
invariant-loop-i l = record {
  led : Lead (ProgramLine l.theory.decls) nothing (take l.i (map (λ line. line.now) l.cut.lines.items)) (program_state l.progress.head l.progress.program);
  head : IsHeadOver l.theory.decls l.progress.head;
  program : IsProgramOver l.theory.decls l.progress.program;
  extends : Extends l.initial.bank l.bank;
}
