use Rattle.std.proofs.Common.{◌≢◌}
use Rattle.syn_form.proofs.Deciding.{all_more, all_pass, item_fails}
use Rattle.syn_model.specs.Heads.{given_name}
use Rattle.syn_model.proofs.heads.are_others.Goals as goal

pub returns-then-not-is_other : goal.returns-then-not-is_other
returns-then-not-is_other c = item_fails (λ p. given_name p ≢ c.args.name.now) _ _ _ _ c.loop-input-test.true c.input-item.is c.is_other.ensures c.if-not-is_other.true

pub loop-input-preserved : goal.loop-input-preserved
loop-input-preserved c = all_more (λ p. given_name p ≢ c.args.name.now) _ _ _ _ c.loop-input-test.true c.input-item.is c.is_other.ensures c.if-not-is_other.false c.loop-input.invariant

pub returns : goal.returns
returns c = all_pass (λ p. given_name p ≢ c.args.name.now) _ _ c.loop-input-test.false c.loop-input.invariant
