use Rattle.std.proofs.Common.{[], ap}
use Rattle.syn_model.specs.BareParts.{bare_spec_tree}
use Rattle.syn_files.specs.TheoryLines.{file_scope}
use Rattle.syn_files.proofs.PartLaws.{requires_none, requires_told}
use Rattle.syn_files.proofs.spec_forms.requires_line.Goals as goal

pub returns-in-Ok-clause-told : goal.returns-in-Ok-clause-told
returns-in-Ok-clause-told c =
    requires_told (bare_spec_tree c.args.spec.now) c.args.back.now _ _ (ap (λ t. file_scope t []) c.symbols.ensures.table) c.in-Ok.ensures.answer c.form_of_words.ensures.one

pub returns-in-Err-Refused-clause-told : goal.returns-in-Err-Refused-clause-told
returns-in-Err-Refused-clause-told c =
    requires_none (bare_spec_tree c.args.spec.now) c.args.back.now _ (ap (λ t. file_scope t []) c.symbols.ensures.table) (rw c.in-Err-Refused.field-0-is at c.in-Err-Refused.ensures.answer)
