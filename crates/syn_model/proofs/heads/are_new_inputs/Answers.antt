use Rattle.syn_form.proofs.Deciding.{all_more, all_pass, item_fails}
use Rattle.syn_model.specs.Heads.{IsNewName, given_name}
use Rattle.syn_model.proofs.heads.are_new_inputs.Goals as goal

pub returns-then-not-is_new_input : goal.returns-then-not-is_new_input
returns-then-not-is_new_input c = item_fails (λ p. IsNewName c.args.theory.now.decls (given_name p)) _ _ _ _ c.loop-input-test.true c.input-item.is c.is_new_input.ensures c.if-not-is_new_input.true

pub loop-input-preserved : goal.loop-input-preserved
loop-input-preserved c = all_more (λ p. IsNewName c.args.theory.now.decls (given_name p)) _ _ _ _ c.loop-input-test.true c.input-item.is c.is_new_input.ensures c.if-not-is_new_input.false c.loop-input.invariant

pub returns : goal.returns
returns c = all_pass (λ p. IsNewName c.args.theory.now.decls (given_name p)) _ _ c.loop-input-test.false c.loop-input.invariant
