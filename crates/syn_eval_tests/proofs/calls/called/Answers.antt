use Rattle.syn_eval_tests.proofs.Fitting.{less_fit}
use Rattle.syn_eval_tests.proofs.calls.called.Goals as goal

pub called_with-requires : goal.called_with-requires
called_with-requires c = less_fit _ _ _ c.as_slice.ensures c.requires c.in_ok-values.ensures
