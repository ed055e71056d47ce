use Rattle.std.proofs.Common.{arith}
use Rattle.syn_expr.specs.inner.Accepting.{limit_of}
use Rattle.syn_expr.specs.inner.Spending.{made}
use Rattle.syn_expr.specs.Scopes.{spoken}
use Rattle.syn_expr.proofs.Taking.{out_counted, not_past}
use Rattle.syn_expr.proofs.accepting.taken_out.Goals as goal

pub fitting_out-requires : goal.fitting_out-requires
fitting_out-requires c = c.out_fits.ensures.0 c.if-out_fits.true

pub returns-then-out_fits-clause-past : goal.returns-then-out_fits-clause-past
returns-then-out_fits-clause-past c = not_past (limit_of c.args.nodes c.args.depth) _ _ (c.out_fits.ensures.0 c.if-out_fits.true)

pub returns-then-out_fits-clause-made : goal.returns-then-out_fits-clause-made
returns-then-out_fits-clause-made c =
    let spent = made _ _ _ c.fitting_out.ensures.made in
    let few = (c.out_fits.ensures.0 c.if-out_fits.true).0 in
    omega (arith, spent, few)

pub returns-else-out_fits-clause-tree : goal.returns-else-out_fits-clause-tree
returns-else-out_fits-clause-tree c = out_counted (spoken c.args.scope.now) c.args.syntax.now c.args.nodes c.args.depth _ c.out_fits.ensures c.if-out_fits.false
