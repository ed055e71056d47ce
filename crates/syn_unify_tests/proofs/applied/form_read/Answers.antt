use Rattle.syn_expr.specs.Belonging.{FormBelongs-terms}
use Rattle.syn_unify_tests.proofs.applied.form_read.Goals as goal

pub returns-in-Ok-clause-belongs : goal.returns-in-Ok-clause-belongs
returns-in-Ok-clause-belongs c = FormBelongs-terms _ _ c.in-Ok.ensures.belongs
