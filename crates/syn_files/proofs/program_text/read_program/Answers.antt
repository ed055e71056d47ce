use Rattle.syn_lex.proofs.Led.{one_text}
use Rattle.syn_files.specs.ProgramLines.{IsWholeProgram, ProgramLine, nothing}
use Rattle.syn_files.proofs.Within.{program_within}
use Rattle.syn_files.proofs.ProgramSteps.{program_lines_once}
use Rattle.syn_files.proofs.program_text.read_program.Goals as goal

pub returns-in-Err-clause-one : goal.returns-in-Err-clause-one
returns-in-Err-clause-one c = one_text (ProgramLine c.args.theory.now.decls) (program_lines_once c.args.theory.now.decls) nothing IsWholeProgram c.args.bytes.now

pub returns-in-Ok-clause-one : goal.returns-in-Ok-clause-one
returns-in-Ok-clause-one c = one_text (ProgramLine c.args.theory.now.decls) (program_lines_once c.args.theory.now.decls) nothing IsWholeProgram c.args.bytes.now

pub returns-in-Ok-clause-within : goal.returns-in-Ok-clause-within
returns-in-Ok-clause-within c = program_within c.args.theory.now.decls c.args.bytes.now c.program_in.result (c.program_in.ensures.answer c.args.bytes.now c.in-Ok.ensures.cut)
