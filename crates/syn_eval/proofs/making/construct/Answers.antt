use Rattle.std.proofs.Common.{sym, subst}
use Rattle.syn_model.specs.Calls.{constructed}
use Rattle.syn_eval.specs.Ending.{Ends}
use Rattle.syn_eval.proofs.making.construct.Goals as goal

pub returns-in-Zero-clause-ends : goal.returns-in-Zero-clause-ends
returns-in-Zero-clause-ends c = subst (λ k. Ends (λ _. constructed k c.args.args.now) c.args.turns c.zero.result) (sym c.in-Zero.is) c.zero.ensures.ends

pub returns-in-Succ-clause-ends : goal.returns-in-Succ-clause-ends
returns-in-Succ-clause-ends c = subst (λ k. Ends (λ _. constructed k c.args.args.now) c.args.turns c.successor.result) (sym c.in-Succ.is) c.successor.ensures.ends

pub returns-in-Nil-clause-ends : goal.returns-in-Nil-clause-ends
returns-in-Nil-clause-ends c = subst (λ k. Ends (λ _. constructed k c.args.args.now) c.args.turns c.empty.result) (sym c.in-Nil.is) c.empty.ensures.ends

pub returns-in-Cons-clause-ends : goal.returns-in-Cons-clause-ends
returns-in-Cons-clause-ends c = subst (λ k. Ends (λ _. constructed k c.args.args.now) c.args.turns c.longer.result) (sym c.in-Cons.is) c.longer.ensures.ends

pub returns-in-Tuple-clause-ends : goal.returns-in-Tuple-clause-ends
returns-in-Tuple-clause-ends c = subst (λ k. Ends (λ _. constructed k c.args.args.now) c.args.turns c.tuple.result) (sym c.in-Tuple.is) c.tuple.ensures.ends
