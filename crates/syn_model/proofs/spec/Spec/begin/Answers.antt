use Rattle.std.proofs.Common.{sym, subst}
use Rattle.syn_model.specs.Specifications.{IsSpec, begun}
use Rattle.syn_model.proofs.spec.Spec.begin.Goals as goal

pub returns-clause-spec : goal.returns-clause-spec
returns-clause-spec c = subst (IsSpec c.args.theory.now.decls) (sym c.in_ok-begun.ensures) (begun _ _ _ (c.may_begin.ensures.0 c.if-not-may_begin.false))
