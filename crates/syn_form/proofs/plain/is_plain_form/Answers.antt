use Rattle.std.proofs.lemmas.Result.{IfOk-weaker}
use Rattle.syn_form.proofs.PlainTrees.{plain_form}
use Rattle.syn_form.proofs.plain.is_plain_form.Goals as goal

pub returns : goal.returns
returns c = IfOk-weaker c.form_has_one_sort_each.result _ _ (λ b h. plain_form _ _ b (c.is_formed_form.ensures.0 c.if-not-is_formed_form.false) h) c.form_has_one_sort_each.ensures
