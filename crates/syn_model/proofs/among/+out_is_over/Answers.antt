use Rattle.std.proofs.Common.{Contains, refl}
use Rattle.syn_form.proofs.Deciding.{other_way, part_fails, same_fact, unless_part, when_two}
use Rattle.syn_model.proofs.Over.{over_give, over_if}
use Rattle.syn_model.proofs.among.+out_is_over.Goals as goal

pub returns-in-Give : goal.returns-in-Give
returns-in-Give t c = same_fact (other_way (over_give (Contains c.args.vars.now) _ _ c.in-Give.is)) c.term_is_over.ensures

pub returns-then-not-form_is_over : goal.returns-then-not-form_is_over
returns-then-not-form_is_over t c = part_fails (λ h. ((over_if (Contains c.args.vars.now) _ _ _ _ _ _ _ c.in-If.is c.get.ensures refl refl).1 h).0) c.form_is_over.ensures c.if-not-form_is_over.true

pub returns-then-out_is_over : goal.returns-then-out_is_over
returns-then-out_is_over t c = when_two (other_way (over_if (Contains c.args.vars.now) _ _ _ _ _ _ _ c.in-If.is c.get.ensures c.get-in-If.ensures c.get-then-out_is_over.ensures)) c.form_is_over.ensures c.if-not-form_is_over.false c.out_is_over.ensures c.if-out_is_over.true c.out_is_over-then-out_is_over.ensures

pub returns-else-out_is_over : goal.returns-else-out_is_over
returns-else-out_is_over t c = unless_part (λ h. ((over_if (Contains c.args.vars.now) _ _ _ _ _ _ _ c.in-If.is c.get.ensures c.get-in-If.ensures refl).1 h).1.0) c.out_is_over.ensures c.if-out_is_over.false
