use Rattle.syn_eval_tests.proofs.Fitting.{more_fit}
use Rattle.syn_eval_tests.proofs.problems.push_value.Goals as goal

pub returns-in-Ok : goal.returns-in-Ok
returns-in-Ok c = more_fit _ _ c.in_ok-value.value c.in-Ok.ensures.ok c.requires c.in_ok-value.ensures
