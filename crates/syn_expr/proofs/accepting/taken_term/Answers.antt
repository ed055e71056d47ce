use Rattle.std.proofs.Common.{arith}
use Rattle.syn_expr.specs.inner.Accepting.{limit_of}
use Rattle.syn_expr.specs.inner.Spending.{made}
use Rattle.syn_expr.specs.Scopes.{spoken}
use Rattle.syn_expr.proofs.Taking.{term_counted, not_past}
use Rattle.syn_expr.proofs.accepting.taken_term.Goals as goal

pub fitting_term-requires : goal.fitting_term-requires
fitting_term-requires c = c.term_fits.ensures.0 c.if-term_fits.true

pub returns-then-term_fits-clause-past : goal.returns-then-term_fits-clause-past
returns-then-term_fits-clause-past c = not_past (limit_of c.args.nodes c.args.depth) _ _ (c.term_fits.ensures.0 c.if-term_fits.true)

pub returns-then-term_fits-clause-made : goal.returns-then-term_fits-clause-made
returns-then-term_fits-clause-made c =
    let spent = made _ _ _ c.fitting_term.ensures.made in
    let few = (c.term_fits.ensures.0 c.if-term_fits.true).0 in
    omega (arith, spent, few)

pub returns-else-term_fits-clause-tree : goal.returns-else-term_fits-clause-tree
returns-else-term_fits-clause-tree c = term_counted (spoken c.args.scope.now) c.args.syntax.now c.args.nodes c.args.depth _ c.term_fits.ensures c.if-term_fits.false
