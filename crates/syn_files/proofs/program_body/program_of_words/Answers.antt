use Rattle.std.proofs.Common.{ap}
use Rattle.std.proofs.lemmas.Result.{IfOk-weaker}
use Rattle.syn_files.proofs.ProgramSteps.{body_answered, no_body}
use Rattle.syn_files.proofs.program_body.program_of_words.Goals as goal

pub returns-in-Ok-Some-clause-told : goal.returns-in-Ok-Some-clause-told
returns-in-Ok-Some-clause-told c = λ ds. IfOk-weaker c.completed.result _ _ (λ o h. body_answered ds c.args.head c.args.words.now _ _ o c.requires c.in-Ok-Some.ensures.told c.in-Ok-Some.field-0-is h) c.completed.ensures.told

pub returns-in-Ok-None-clause-told : goal.returns-in-Ok-None-clause-told
returns-in-Ok-None-clause-told c = λ ds. no_body ds c.args.head c.args.words.now _ c.requires c.in-Ok-None.ensures.told c.in-Ok-None.field-0-is
