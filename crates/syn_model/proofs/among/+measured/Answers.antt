use Rattle.std.proofs.Common.{All, sym, ◌∙◌}
use Rattle.syn_form.specs.Trees.{term_vars}
use Rattle.syn_model.specs.Declaring.{IsNumberedIn}
use Rattle.syn_form.proofs.Deciding.{all_more, all_pass, item_fails, other_way, same_fact}
use Rattle.syn_model.proofs.Over.{over_app, over_var}
use Rattle.syn_model.proofs.among.+measured.Goals as goal

pub is_measured_in-returns-in-Var : goal.is_measured_in-returns-in-Var
is_measured_in-returns-in-Var t c = same_fact (other_way (over_var (IsNumberedIn c.args.sorts.now) _ _ _ (sym c.get.ensures ∙ c.in-Var.is))) c.is_numbered_in.ensures

pub is_measured_in-returns-in-App : goal.is_measured_in-returns-in-App
is_measured_in-returns-in-App t c = same_fact (other_way (over_app (IsNumberedIn c.args.sorts.now) _ _ _ _ _ (sym c.get.ensures ∙ c.in-App.is) c.as_slice.ensures)) c.are_measured_in.ensures

pub are_measured_in-returns-then-not-is_measured_in : goal.are_measured_in-returns-then-not-is_measured_in
are_measured_in-returns-then-not-is_measured_in t c = item_fails (λ s. All (IsNumberedIn c.args.sorts.now) (term_vars s)) _ _ _ _ c.loop-t-test.true c.t-item.is c.is_measured_in.ensures c.if-not-is_measured_in.true

pub are_measured_in-loop-t-preserved : goal.are_measured_in-loop-t-preserved
are_measured_in-loop-t-preserved t c = all_more (λ s. All (IsNumberedIn c.args.sorts.now) (term_vars s)) _ _ _ _ c.loop-t-test.true c.t-item.is c.is_measured_in.ensures c.if-not-is_measured_in.false c.loop-t.invariant

pub are_measured_in-returns : goal.are_measured_in-returns
are_measured_in-returns t c = all_pass (λ s. All (IsNumberedIn c.args.sorts.now) (term_vars s)) _ _ c.loop-t-test.false c.loop-t.invariant
