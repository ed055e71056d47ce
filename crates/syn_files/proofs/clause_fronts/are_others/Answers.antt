use Rattle.std.proofs.Common.{◌≢◌}
use Rattle.syn_form.proofs.Deciding.{all_more, all_pass, item_fails}
use Rattle.syn_files.specs.inner.ClauseReading.{text_of}
use Rattle.syn_files.proofs.clause_fronts.are_others.Goals as goal

pub returns-then-not-is_other : goal.returns-then-not-is_other
returns-then-not-is_other c = item_fails (λ e. text_of e ≢ c.args.text.now) _ _ _ _ c.loop-name-test.true c.name-item.is c.is_other.ensures c.if-not-is_other.true

pub loop-name-preserved : goal.loop-name-preserved
loop-name-preserved c = all_more (λ e. text_of e ≢ c.args.text.now) _ _ _ _ c.loop-name-test.true c.name-item.is c.is_other.ensures c.if-not-is_other.false c.loop-name.invariant

pub returns : goal.returns
returns c = all_pass (λ e. text_of e ≢ c.args.text.now) _ _ c.loop-name-test.false c.loop-name.invariant
