-- The program was read over the theory, and its text is one over the theory without places.
use Rattle.std.proofs.Common.{Err, subst}
use Rattle.syn_lex.specs.declared.lines.FileError.{FileError}
use Rattle.syn_lex.specs.Stepping.{ReadsText}
use Rattle.syn_model.specs.BareParts.{bare_program_tree}
use Rattle.syn_model.specs.BareTrees.{bare_theory_tree}
use Rattle.syn_model.specs.Programs.{ProgramTree}
use Rattle.syn_files.specs.ProgramLines.{IsWholeProgram, ProgramLine, known, nothing}
use Rattle.syn_files.proofs.BarePrograms.{program_read_bare, program_text_bare}
use Rattle.syn_app.proofs.evaluating.judge_program.Goals as goal

pub returns-in-Ok : goal.returns-in-Ok
returns-in-Ok c = (program_text_bare c.args.theory.now.decls c.args.bytes.now (bare_program_tree c.in-Ok.program)).1 c.in-Ok.ensures.answer

pub returns-in-Err-Bad : goal.returns-in-Err-Bad
returns-in-Err-Bad c =
    let bare = (program_read_bare c.args.theory.now.decls (λ (p : ProgramTree). known (bare_program_tree p)) c.args.bytes.now (Err c.in-Err-Bad.field-0)).1 c.in-Err-Bad.ensures.answer in
    subst (λ (e : FileError). ReadsText (ProgramLine (bare_theory_tree c.args.theory.now).decls) nothing IsWholeProgram (λ (p : ProgramTree). known (bare_program_tree p)) c.args.bytes.now (Err e)) c.in-Err-Bad.field-0-is bare
