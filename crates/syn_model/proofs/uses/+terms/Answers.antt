use Rattle.std.proofs.Common.{sym, ◌∙◌}
use Rattle.syn_model.specs.Clauses.{UsesTerm}
use Rattle.syn_form.proofs.Deciding.{all_more, all_pass, holds, item_fails, other_way, unless_first, when_first}
use Rattle.syn_model.proofs.Using.{uses_app, uses_var}
use Rattle.syn_model.proofs.uses.+terms.Goals as goal

pub uses_term-returns-in-Var : goal.uses_term-returns-in-Var
uses_term-returns-in-Var t c = holds (uses_var _ _ _ _ _ (sym c.get.ensures ∙ c.in-Var.is))

pub uses_term-returns-then-may_stand : goal.uses_term-returns-then-may_stand
uses_term-returns-then-may_stand t c = when_first (other_way (uses_app _ _ _ _ _ _ _ _ (sym c.get.ensures ∙ c.in-App.is) c.as_slice.ensures c.as_slice-then-may_stand.ensures)) c.may_stand.ensures c.if-may_stand.true c.uses_terms.ensures

pub uses_term-returns-else-may_stand : goal.uses_term-returns-else-may_stand
uses_term-returns-else-may_stand t c = unless_first (other_way (uses_app _ _ _ _ _ _ _ _ (sym c.get.ensures ∙ c.in-App.is) c.as_slice.ensures c.as_slice.ensures)) c.may_stand.ensures c.if-may_stand.false

pub uses_terms-returns-then-not-uses_term : goal.uses_terms-returns-then-not-uses_term
uses_terms-returns-then-not-uses_term t c = item_fails (UsesTerm c.args.own c.args.rest) _ _ _ _ c.loop-t-test.true c.t-item.is c.uses_term.ensures c.if-not-uses_term.true

pub uses_terms-loop-t-preserved : goal.uses_terms-loop-t-preserved
uses_terms-loop-t-preserved t c = all_more (UsesTerm c.args.own c.args.rest) _ _ _ _ c.loop-t-test.true c.t-item.is c.uses_term.ensures c.if-not-uses_term.false c.loop-t.invariant

pub uses_terms-returns : goal.uses_terms-returns
uses_terms-returns t c = all_pass (UsesTerm c.args.own c.args.rest) _ _ c.loop-t-test.false c.loop-t.invariant
