use Rattle.std.proofs.Common.{refl}
use Rattle.syn_form.proofs.Deciding.{other_way, part_fails, same_fact, unless_part, when_two}
use Rattle.syn_model.proofs.Using.{uses_give, uses_if}
use Rattle.syn_model.proofs.uses.+uses_out.Goals as goal

pub returns-in-Give : goal.returns-in-Give
returns-in-Give t c = same_fact (other_way (uses_give _ _ _ _ c.in-Give.is)) c.uses_term.ensures

pub returns-then-not-uses_form : goal.returns-then-not-uses_form
returns-then-not-uses_form t c = part_fails (λ h. ((uses_if _ _ _ _ _ _ _ _ _ c.in-If.is c.get.ensures refl refl).1 h).0) c.uses_form.ensures c.if-not-uses_form.true

pub returns-then-uses_out : goal.returns-then-uses_out
returns-then-uses_out t c = when_two (other_way (uses_if _ _ _ _ _ _ _ _ _ c.in-If.is c.get.ensures c.get-in-If.ensures c.get-then-uses_out.ensures)) c.uses_form.ensures c.if-not-uses_form.false c.uses_out.ensures c.if-uses_out.true c.uses_out-then-uses_out.ensures

pub returns-else-uses_out : goal.returns-else-uses_out
returns-else-uses_out t c = unless_part (λ h. ((uses_if _ _ _ _ _ _ _ _ _ c.in-If.is c.get.ensures c.get-in-If.ensures refl).1 h).1.0) c.uses_out.ensures c.if-uses_out.false
