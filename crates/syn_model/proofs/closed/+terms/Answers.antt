use Rattle.std.proofs.Common.{Contains, sym, ◌∙◌}
use Rattle.syn_form.specs.Trees.{term_vars}
use Rattle.syn_model.specs.inner.Closing.{bound_vars}
use Rattle.syn_model.specs.Declaring.{AreAmong}
use Rattle.syn_form.proofs.Deciding.{all_more, all_pass, item_fails, other_way, same_fact}
use Rattle.syn_model.proofs.Over.{over_app, over_var}
use Rattle.syn_model.proofs.closed.+terms.Goals as goal

pub term_is_bound-returns-in-Var : goal.term_is_bound-returns-in-Var
term_is_bound-returns-in-Var t c = same_fact (other_way (over_var (Contains (bound_vars c.args.bound.now)) _ _ _ (sym c.get.ensures ∙ c.in-Var.is))) c.is_bound.ensures

pub term_is_bound-returns-in-App : goal.term_is_bound-returns-in-App
term_is_bound-returns-in-App t c = same_fact (other_way (over_app (Contains (bound_vars c.args.bound.now)) _ _ _ _ _ (sym c.get.ensures ∙ c.in-App.is) c.as_slice.ensures)) c.terms_are_bound.ensures

pub terms_are_bound-returns-then-not-term_is_bound : goal.terms_are_bound-returns-then-not-term_is_bound
terms_are_bound-returns-then-not-term_is_bound t c = item_fails (λ s. AreAmong (term_vars s) (bound_vars c.args.bound.now)) _ _ _ _ c.loop-t-test.true c.t-item.is c.term_is_bound.ensures c.if-not-term_is_bound.true

pub terms_are_bound-loop-t-preserved : goal.terms_are_bound-loop-t-preserved
terms_are_bound-loop-t-preserved t c = all_more (λ s. AreAmong (term_vars s) (bound_vars c.args.bound.now)) _ _ _ _ c.loop-t-test.true c.t-item.is c.term_is_bound.ensures c.if-not-term_is_bound.false c.loop-t.invariant

pub terms_are_bound-returns : goal.terms_are_bound-returns
terms_are_bound-returns t c = all_pass (λ s. AreAmong (term_vars s) (bound_vars c.args.bound.now)) _ _ c.loop-t-test.false c.loop-t.invariant
