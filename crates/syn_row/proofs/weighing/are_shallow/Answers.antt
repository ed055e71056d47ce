use Rattle.std.proofs.Common.{◌≤◌}
use Rattle.syn_form.specs.Trees.{form_depth}
use Rattle.syn_form.proofs.Deciding.{all_more, all_whole, fails, holds, not_all}
use Rattle.syn_row.specs.Results.{most_step_depth}
use Rattle.syn_row.proofs.weighing.are_shallow.Goals as goal

pub returns-then-not-is_shallow : goal.returns-then-not-is_shallow
returns-then-not-is_shallow c = fails (not_all (λ x. form_depth x ≤ most_step_depth) _ _ _ _ c.loop-f-test.true c.f-item.is c.is_shallow.ensures c.if-not-is_shallow.true)

pub loop-f-preserved : goal.loop-f-preserved
loop-f-preserved c = all_more (λ x. form_depth x ≤ most_step_depth) _ _ _ _ c.loop-f-test.true c.f-item.is c.is_shallow.ensures c.if-not-is_shallow.false c.loop-f.invariant

pub returns : goal.returns
returns c = holds (all_whole (λ x. form_depth x ≤ most_step_depth) _ _ c.loop-f-test.false c.loop-f.invariant)
