use Rattle.std.proofs.Common.{◌+◌, ◌*◌, ◌<◌, refl, arith}
use Rattle.std.proofs.lemmas.Result.{IfOk-weaker}
use Rattle.syn_expr.specs.Limits.{out_cost}
use Rattle.syn_expr.specs.inner.Places.{spoken_at}
use Rattle.syn_expr.proofs.OutMaking.{choice_read}
use Rattle.syn_expr.proofs.Spending.{choice_spent, lighter_arms}
use Rattle.syn_expr.proofs.elaborate_out.+outs.Goals as goal

pub elaborate_out-returns-in-If-clause-made : goal.elaborate_out-returns-in-If-clause-made
elaborate_out-returns-in-If-clause-made t c = choice_spent _ _ _ _ _ _ _ _ _ c.in-If.is refl c.get.ensures c.get-in-If.ensures c.elaborate_choice.ensures.made

pub elaborate_out-elaborate_choice-requires : goal.elaborate_out-elaborate_choice-requires
elaborate_out-elaborate_choice-requires t c =
    let lighter = lighter_arms _ _ _ _ _ _ c.in-If.is c.get.ensures c.get-in-If.ensures in
    let less : 3 * (out_cost c.get.result.now + out_cost c.get-in-If.result.now) + 2 < t = omega arith in (less, tt)

pub elaborate_choice-elaborate_arms-requires : goal.elaborate_choice-elaborate_arms-requires
elaborate_choice-elaborate_arms-requires t c = (omega arith, tt)

pub elaborate_arms-elaborate_out-requires : goal.elaborate_arms-elaborate_out-requires
elaborate_arms-elaborate_out-requires t c = (omega arith, tt)

pub elaborate_arms-elaborate_out-requires-2 : goal.elaborate_arms-elaborate_out-requires-2
elaborate_arms-elaborate_out-requires-2 t c = (omega arith, tt)

pub elaborate_out-returns-in-If-clause-tree : goal.elaborate_out-returns-in-If-clause-tree
elaborate_out-returns-in-If-clause-tree t c = IfOk-weaker c.elaborate_choice.result _ _ (λ r e. choice_read (spoken_at c.args.place.now) _ _ _ _ _ _ _ c.in-If.is c.get.ensures c.get-in-If.ensures e) c.elaborate_choice.ensures.tree
