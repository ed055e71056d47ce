use Rattle.std.proofs.Common.{◌∙◌, sym}
use Rattle.std.proofs.lemmas.Result.{IfOk-weaker}
use Rattle.syn_model.specs.BareParts.{bare_spec_tree}
use Rattle.syn_files.proofs.PartLaws.{named_told}
use Rattle.syn_files.proofs.spec_forms.part_behind.Goals as goal

pub returns-clause-told : goal.returns-clause-told
returns-clause-told c =
    IfOk-weaker c.named_part.result _ _ (named_told (bare_spec_tree c.args.spec.now) c.args.keyword.now c.args.cursor.now.left (sym c.is_text.ensures ∙ c.if-is_text.false) (sym c.is_text-2.ensures ∙ c.if-is_text-2.false)) c.named_part.ensures
