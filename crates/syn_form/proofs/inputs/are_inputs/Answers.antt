use Rattle.syn_form.specs.Inputs.{IsInput}
use Rattle.syn_form.proofs.Deciding.{all_more, all_whole, fails, holds, not_all}
use Rattle.syn_form.proofs.inputs.are_inputs.Goals as goal

pub returns-then-not-is_input : goal.returns-then-not-is_input
returns-then-not-is_input c = fails (not_all (IsInput c.args.syms.now) _ _ _ _ c.loop-entry-test.true c.entry-item.is c.is_input.ensures c.if-not-is_input.true)

pub loop-entry-preserved : goal.loop-entry-preserved
loop-entry-preserved c = all_more (IsInput c.args.syms.now) _ _ _ _ c.loop-entry-test.true c.entry-item.is c.is_input.ensures c.if-not-is_input.false c.loop-entry.invariant

pub returns : goal.returns
returns c = holds (all_whole (IsInput c.args.syms.now) _ _ c.loop-entry-test.false c.loop-entry.invariant)
