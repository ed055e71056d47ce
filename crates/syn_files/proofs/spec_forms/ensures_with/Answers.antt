use Rattle.std.proofs.Common.{ap, ◌∙◌}
use Rattle.syn_model.specs.BareParts.{bare_spec_tree}
use Rattle.syn_expr.specs.Scopes.{listed}
use Rattle.syn_files.specs.TheoryLines.{file_scope}
use Rattle.syn_files.proofs.PartLaws.{ensures_none, ensures_told}
use Rattle.syn_files.proofs.spec_forms.ensures_with.Goals as goal

pub returns-in-Ok-clause-told : goal.returns-in-Ok-clause-told
returns-in-Ok-clause-told c =
    ensures_told (bare_spec_tree c.args.spec.now) c.args.back.now _ _ (ap (λ t. file_scope t (listed c.args.names.now)) c.symbols.ensures.table ∙ ap (file_scope c.args.spec.now.table) c.requires) c.in-Ok.ensures.answer c.qform_of_words.ensures.one

pub returns-in-Err-Refused-clause-told : goal.returns-in-Err-Refused-clause-told
returns-in-Err-Refused-clause-told c =
    ensures_none (bare_spec_tree c.args.spec.now) c.args.back.now _ (ap (λ t. file_scope t (listed c.args.names.now)) c.symbols.ensures.table ∙ ap (file_scope c.args.spec.now.table) c.requires) (rw c.in-Err-Refused.field-0-is at c.in-Err-Refused.ensures.answer)
