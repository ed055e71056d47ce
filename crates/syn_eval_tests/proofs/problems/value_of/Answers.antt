use Rattle.syn_eval_tests.proofs.Fitting.{read_fits}
use Rattle.syn_eval_tests.proofs.problems.value_of.Goals as goal

pub returns-in-Ok : goal.returns-in-Ok
returns-in-Ok c = read_fits _ _ _ _ c.in-Ok.ensures.value
