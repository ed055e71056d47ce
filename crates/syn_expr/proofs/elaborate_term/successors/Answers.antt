use Rattle.std.proofs.Common.{◌+◌, arith}
use Rattle.syn_expr.specs.inner.Spending.{spends_both, spends_less}
use Rattle.syn_expr.proofs.elaborate_term.successors.Goals as goal

pub returns-in_err-top-clause-made : goal.returns-in_err-top-clause-made
returns-in_err-top-clause-made c = spends_less _ _ 1 (c.args.count + 1) (omega arith) c.in_err-top.ensures.made

pub returns-in_err-top-2-clause-made : goal.returns-in_err-top-2-clause-made
returns-in_err-top-2-clause-made c =
    let less = c.loop-test.true in
    spends_less _ _ ((c.loop.counter + 1) + 1) (c.args.count + 1) (omega (arith, less)) (spends_both _ _ _ (c.loop.counter + 1) 1 c.loop.invariant.3 c.in_err-top-2.ensures.made)
