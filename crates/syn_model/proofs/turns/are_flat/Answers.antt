use Rattle.std.proofs.Common.{All}
use Rattle.syn_term.specs.Terms.{args_of}
use Rattle.syn_model.specs.Clauses.{IsVariable}
use Rattle.syn_form.proofs.Deciding.{all_more, all_pass, item_fails}
use Rattle.syn_model.proofs.turns.are_flat.Goals as goal

pub returns-then-not-is_flat : goal.returns-then-not-is_flat
returns-then-not-is_flat c = item_fails (λ t. All IsVariable (args_of t)) c.args.terms.now _ _ _ c.loop-t-test.true c.t-item.is c.is_flat.ensures c.if-not-is_flat.true

pub loop-t-preserved : goal.loop-t-preserved
loop-t-preserved c = all_more (λ t. All IsVariable (args_of t)) c.args.terms.now _ _ _ c.loop-t-test.true c.t-item.is c.is_flat.ensures c.if-not-is_flat.false c.loop-t.invariant

pub returns : goal.returns
returns c = all_pass (λ t. All IsVariable (args_of t)) c.args.terms.now _ c.loop-t-test.false c.loop-t.invariant
