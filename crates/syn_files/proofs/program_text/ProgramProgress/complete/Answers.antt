use Rattle.syn_files.proofs.ProgramSteps.{body_kept_out, body_put}
use Rattle.syn_files.proofs.program_text.ProgramProgress.complete.Goals as goal

pub returns-in-None-clause-taken : goal.returns-in-None-clause-taken
returns-in-None-clause-taken c = λ ds. body_kept_out ds c.args.head c.args.words.now _ (c.in_ok-program_of_words.ensures.told ds) c.in-None.is

pub returns-in-Some-clause-taken : goal.returns-in-Some-clause-taken
returns-in-Some-clause-taken c = λ ds. body_put ds c.args.head c.args.words.now _ _ _ _ (c.in_ok-program_of_words.ensures.told ds) c.in-Some.is c.replace.ensures.after
