use Rattle.std.proofs.lemmas.Result.{IfOk-weaker}
use Rattle.syn_form.proofs.PlainTrees.{plain_out}
use Rattle.syn_form.proofs.plain.is_plain_out.Goals as goal

pub returns : goal.returns
returns c = IfOk-weaker c.out_has_one_sort_each.result _ _ (λ b h. plain_out _ _ b (c.is_formed_out.ensures.0 c.if-not-is_formed_out.false) h) c.out_has_one_sort_each.ensures
