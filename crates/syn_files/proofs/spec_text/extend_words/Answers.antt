use Rattle.std.proofs.Common.{Err, ◌∙◌, ap}
use Rattle.syn_files.proofs.SpecSteps.{no_part, part_kept_out, part_put}
use Rattle.syn_files.proofs.spec_text.extend_words.Goals as goal

pub returns-in-None-clause-taken : goal.returns-in-None-clause-taken
returns-in-None-clause-taken c = no_part c.args.theory.now.decls c.args.spec.now c.args.words.now _ c.requires.some c.in_ok-part_of_words.ensures.told c.in-None.is

pub returns-in-Ok-clause-taken : goal.returns-in-Ok-clause-taken
returns-in-Ok-clause-taken c = part_put c.args.theory.now.decls c.args.spec.now _ c.args.words.now _ _ c.in_ok-part_of_words.ensures.told c.in-Some.is c.in-Ok.ensures.ok

pub returns-in-Err-Refused-clause-taken : goal.returns-in-Err-Refused-clause-taken
returns-in-Err-Refused-clause-taken c =
    part_kept_out c.args.theory.now.decls c.args.spec.now c.args.words.now _ _ c.requires.some c.in_ok-part_of_words.ensures.told c.in-Some.is (c.extend.ensures.refused (c.in-Err-Refused.is ∙ ap Err c.in-Err-Refused.field-0-is))
