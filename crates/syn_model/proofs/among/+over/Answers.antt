use Rattle.std.proofs.Common.{Contains, sym, ◌∙◌}
use Rattle.syn_form.specs.Trees.{term_vars}
use Rattle.syn_model.specs.Declaring.{AreAmong}
use Rattle.syn_form.proofs.Deciding.{all_more, all_pass, item_fails, other_way, same_fact}
use Rattle.syn_model.proofs.Over.{over_app, over_var}
use Rattle.syn_model.proofs.among.+over.Goals as goal

pub term_is_over-returns-in-Var : goal.term_is_over-returns-in-Var
term_is_over-returns-in-Var t c = same_fact (other_way (over_var (Contains c.args.vars.now) _ _ _ (sym c.get.ensures ∙ c.in-Var.is))) c.is_one_of.ensures

pub term_is_over-returns-in-App : goal.term_is_over-returns-in-App
term_is_over-returns-in-App t c = same_fact (other_way (over_app (Contains c.args.vars.now) _ _ _ _ _ (sym c.get.ensures ∙ c.in-App.is) c.as_slice.ensures)) c.terms_are_over.ensures

pub terms_are_over-returns-then-not-term_is_over : goal.terms_are_over-returns-then-not-term_is_over
terms_are_over-returns-then-not-term_is_over t c = item_fails (λ s. AreAmong (term_vars s) c.args.vars.now) _ _ _ _ c.loop-t-test.true c.t-item.is c.term_is_over.ensures c.if-not-term_is_over.true

pub terms_are_over-loop-t-preserved : goal.terms_are_over-loop-t-preserved
terms_are_over-loop-t-preserved t c = all_more (λ s. AreAmong (term_vars s) c.args.vars.now) _ _ _ _ c.loop-t-test.true c.t-item.is c.term_is_over.ensures c.if-not-term_is_over.false c.loop-t.invariant

pub terms_are_over-returns : goal.terms_are_over-returns
terms_are_over-returns t c = all_pass (λ s. AreAmong (term_vars s) c.args.vars.now) _ _ c.loop-t-test.false c.loop-t.invariant
