use Rattle.std.proofs.Common.{◌≤◌}
use Rattle.syn_form.specs.Trees.{out_depth}
use Rattle.syn_form.proofs.Deciding.{all_more, all_whole, fails, holds, not_all}
use Rattle.syn_row.specs.Results.{most_step_depth}
use Rattle.syn_row.proofs.weighing.are_shallow_outs.Goals as goal

pub returns-then-not-is_shallow_out : goal.returns-then-not-is_shallow_out
returns-then-not-is_shallow_out c = fails (not_all (λ x. out_depth x ≤ most_step_depth) _ _ _ _ c.loop-o-test.true c.o-item.is c.is_shallow_out.ensures c.if-not-is_shallow_out.true)

pub loop-o-preserved : goal.loop-o-preserved
loop-o-preserved c = all_more (λ x. out_depth x ≤ most_step_depth) _ _ _ _ c.loop-o-test.true c.o-item.is c.is_shallow_out.ensures c.if-not-is_shallow_out.false c.loop-o.invariant

pub returns : goal.returns
returns c = holds (all_whole (λ x. out_depth x ≤ most_step_depth) _ _ c.loop-o-test.false c.loop-o.invariant)
