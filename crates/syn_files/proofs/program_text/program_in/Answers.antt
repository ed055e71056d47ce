use Rattle.std.proofs.Common.{Bor, ◌≡◌, ◌<◌, List, ℕ, length, map, subst, arith}
use Rattle.std.proofs.lemmas.List.{length-map, take_all}
use Rattle.syn_lex.specs.Stepping.{Lead}
use Rattle.syn_term.specs.Bank.{Extends-trans}
use Rattle.syn_files.specs.ProgramLines.{IsWholeProgram, ProgramLine, nothing}
use Rattle.syn_files.specs.inner.ProgramTelling.{program_state}
use Rattle.syn_files.proofs.ProgramSteps.{program_lines_once}
use Rattle.syn_files.proofs.TextLoop.{led_on, refused_at}
use Rattle.syn_files.proofs.program_text.program_in.Goals as goal

abbrev count : (items : List (Bor (List ℕ))) → length (map (λ line. line.now) items) ≡ length items
count items = length-map items (λ line. line.now)

pub returns-in-Ok-false-clause-answer : goal.returns-in-Ok-false-clause-answer
returns-in-Ok-false-clause-answer c = λ bytes cut.
    let n : length (map (λ line. line.now) c.args.cut.now.lines.items) ≡ length c.args.cut.now.lines.items = count c.args.cut.now.lines.items in
    let lt : c.loop-i.i < length (map (λ line. line.now) c.args.cut.now.lines.items) = omega (arith, n, c.len-i-end.ensures, c.loop-i-test.true) in
    refused_at (ProgramLine c.args.theory.now.decls) (program_lines_once c.args.theory.now.decls) nothing IsWholeProgram bytes _ _ cut c.loop-i.i c.line_at.result.now (program_state c.loop-i.progress.head c.loop-i.progress.program) lt c.line_at.ensures c.loop-i.invariant.led (rw c.in-Ok-false.field-0-test at c.in-Ok-false.ensures.taken)

pub loop-i-preserved : goal.loop-i-preserved
loop-i-preserved c =
    let n : length (map (λ line. line.now) c.args.cut.now.lines.items) ≡ length c.args.cut.now.lines.items = count c.args.cut.now.lines.items in
    let lt : c.loop-i.i < length (map (λ line. line.now) c.args.cut.now.lines.items) = omega (arith, n, c.len-i-end.ensures, c.loop-i-test.true) in
    record {
      led = led_on (ProgramLine c.args.theory.now.decls) (program_lines_once c.args.theory.now.decls) nothing IsWholeProgram _ c.loop-i.i c.line_at.result.now (program_state c.loop-i.progress.head c.loop-i.progress.program) _ lt c.line_at.ensures c.loop-i.invariant.led (rw c.in-Ok-true.field-0-test at c.in-Ok-true.ensures.taken);
      head = c.take_line.ensures.head;
      program = c.take_line.ensures.program;
      extends = Extends-trans _ _ _ c.loop-i.invariant.extends c.take_line.ensures.extends;
    }

pub returns-clause-answer : goal.returns-clause-answer
returns-clause-answer c = λ bytes cut.
    let n : length (map (λ line. line.now) c.args.cut.now.lines.items) ≡ length c.args.cut.now.lines.items = count c.args.cut.now.lines.items in
    c.finished.ensures.answer c.args.theory.now.decls bytes cut (subst (λ z. Lead (ProgramLine c.args.theory.now.decls) nothing z (program_state c.loop-i.progress.head c.loop-i.progress.program)) (take_all c.loop-i.i _ (omega (arith, n, c.len-i-end.ensures, c.loop-i-test.false))) c.loop-i.invariant.led)
