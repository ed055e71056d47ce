use Rattle.std.proofs.Common.{Err, ◌∙◌, ap}
use Rattle.syn_files.proofs.StepLaws.{decl_kept_out, decl_put}
use Rattle.syn_files.proofs.theory_text.declare_words.Goals as goal

pub returns-in-Ok-clause-taken : goal.returns-in-Ok-clause-taken
returns-in-Ok-clause-taken c = decl_put c.args.theory.now _ c.args.words.now _ _ c.in_ok-decl_of_words.ensures.told c.in-Some.is c.in-Ok.ensures.ok

pub returns-in-Err-Refused-clause-taken : goal.returns-in-Err-Refused-clause-taken
returns-in-Err-Refused-clause-taken c =
    decl_kept_out c.args.theory.now c.args.words.now _ _ c.requires c.in_ok-decl_of_words.ensures.told c.in-Some.is (c.declare.ensures.refused (c.in-Err-Refused.is ∙ ap Err c.in-Err-Refused.field-0-is))
