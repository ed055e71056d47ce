use Rattle.std.proofs.Common.{sym, subst}
use Rattle.syn_model.specs.Declaring.{IsTheory}
use Rattle.syn_model.specs.Specifications.{IsSpec, one_more}
use Rattle.syn_model.proofs.spec.Spec.extend.Goals as goal

pub push-requires : goal.push-requires
push-requires c = (c.args.theory.now.decls, (subst IsTheory c.decls-decls.ensures.all c.decls-decls.ensures.theory), one_more _ _ c.requires (c.in-Ok-true.ensures.0 c.in-Ok-true.field-0-test))

pub returns-in_ok-push-in-Ok-true-clause-spec : goal.returns-in_ok-push-in-Ok-true-clause-spec
returns-in_ok-push-in-Ok-true-clause-spec c = subst (IsSpec c.args.theory.now.decls) (sym c.in_ok-push-in-Ok-true.ensures.ok) (one_more _ _ c.requires (c.in-Ok-true.ensures.0 c.in-Ok-true.field-0-test))
