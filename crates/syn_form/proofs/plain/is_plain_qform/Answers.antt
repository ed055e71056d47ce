use Rattle.std.proofs.lemmas.Result.{IfOk-weaker}
use Rattle.syn_form.proofs.PlainTrees.{plain_qform}
use Rattle.syn_form.proofs.plain.is_plain_qform.Goals as goal

pub returns : goal.returns
returns c = IfOk-weaker c.qform_has_one_sort_each.result _ _ (λ b h. plain_qform _ _ b (c.is_formed_qform.ensures.0 c.if-not-is_formed_qform.false) (c.binds_in_order.ensures.0 c.if-not-binds_in_order.false) h) c.qform_has_one_sort_each.ensures
