use Rattle.syn_model.specs.Clauses.{IsVariable}
use Rattle.syn_form.proofs.Deciding.{all_more, all_pass, item_fails}
use Rattle.syn_model.proofs.turns.are_variables.Goals as goal

pub returns-then-not-is_variable : goal.returns-then-not-is_variable
returns-then-not-is_variable c = item_fails IsVariable c.args.terms.now _ _ _ c.loop-t-test.true c.t-item.is c.is_variable.ensures c.if-not-is_variable.true

pub loop-t-preserved : goal.loop-t-preserved
loop-t-preserved c = all_more IsVariable c.args.terms.now _ _ _ c.loop-t-test.true c.t-item.is c.is_variable.ensures c.if-not-is_variable.false c.loop-t.invariant

pub returns : goal.returns
returns c = all_pass IsVariable c.args.terms.now _ c.loop-t-test.false c.loop-t.invariant
