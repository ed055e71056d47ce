use Rattle.syn_eval_tests.proofs.Fitting.{less_fit}
use Rattle.syn_eval_tests.proofs.calls.told.Goals as goal

pub told_with-requires : goal.told_with-requires
told_with-requires c = less_fit _ _ _ c.as_slice.ensures c.requires c.in_ok-values.ensures
