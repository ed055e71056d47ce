use Rattle.std.proofs.Common.{[], ap}
use Rattle.syn_files.specs.TheoryLines.{file_scope}
use Rattle.syn_files.proofs.BodyLaws.{out_none, out_told}
use Rattle.syn_files.proofs.program_body.out_of.Goals as goal

pub returns-in-Ok-clause-told : goal.returns-in-Ok-clause-told
returns-in-Ok-clause-told c = out_told c.args.head.now.table _ c.args.words.now _ (ap (λ t. file_scope t []) c.symbols.ensures.table) c.in-Ok.ensures.answer c.body_of_words.ensures.one

pub returns-in-Err-Refused-clause-told : goal.returns-in-Err-Refused-clause-told
returns-in-Err-Refused-clause-told c = out_none c.args.head.now.table _ c.args.words.now (ap (λ t. file_scope t []) c.symbols.ensures.table) (rw c.in-Err-Refused.field-0-is at c.in-Err-Refused.ensures.answer)
