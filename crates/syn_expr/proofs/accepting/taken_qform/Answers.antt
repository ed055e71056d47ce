use Rattle.std.proofs.Common.{arith}
use Rattle.syn_expr.specs.inner.Accepting.{limit_of}
use Rattle.syn_expr.specs.inner.Spending.{made}
use Rattle.syn_expr.specs.Scopes.{spoken}
use Rattle.syn_expr.proofs.Taking.{qform_counted, not_past}
use Rattle.syn_expr.proofs.accepting.taken_qform.Goals as goal

pub fitting_qform-requires : goal.fitting_qform-requires
fitting_qform-requires c = c.form_fits.ensures.0 c.if-form_fits.true

pub returns-then-form_fits-clause-past : goal.returns-then-form_fits-clause-past
returns-then-form_fits-clause-past c = not_past (limit_of c.args.nodes c.args.depth) _ _ (c.form_fits.ensures.0 c.if-form_fits.true)

pub returns-then-form_fits-clause-made : goal.returns-then-form_fits-clause-made
returns-then-form_fits-clause-made c =
    let spent = made _ _ _ c.fitting_qform.ensures.made in
    let few = (c.form_fits.ensures.0 c.if-form_fits.true).0 in
    omega (arith, spent, few)

pub returns-else-form_fits-clause-tree : goal.returns-else-form_fits-clause-tree
returns-else-form_fits-clause-tree c = qform_counted (spoken c.args.scope.now) c.args.syntax.now c.args.nodes c.args.depth _ c.form_fits.ensures c.if-form_fits.false
