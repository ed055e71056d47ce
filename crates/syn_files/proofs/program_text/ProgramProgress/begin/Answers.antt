use Rattle.syn_files.proofs.ProgramSteps.{program_head_out, program_head_put}
use Rattle.syn_files.proofs.program_text.ProgramProgress.begin.Goals as goal

pub returns-in-None-clause-taken : goal.returns-in-None-clause-taken
returns-in-None-clause-taken c = program_head_out c.args.theory.now.decls _ c.args.words.now c.requires.some c.in_ok-program_head_of_words.ensures.told c.in-None.is

pub returns-in-Some-clause-taken : goal.returns-in-Some-clause-taken
returns-in-Some-clause-taken c = program_head_put c.args.theory.now.decls _ _ _ _ c.args.words.now c.requires.none c.replace.ensures.after c.in_ok-program_head_of_words.ensures.told c.in-Some.is
