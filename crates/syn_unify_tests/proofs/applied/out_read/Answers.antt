use Rattle.syn_expr.specs.Belonging.{OutBelongs-terms}
use Rattle.syn_unify_tests.proofs.applied.out_read.Goals as goal

pub returns-in-Ok-clause-belongs : goal.returns-in-Ok-clause-belongs
returns-in-Ok-clause-belongs c = OutBelongs-terms _ _ c.in-Ok.ensures.belongs
