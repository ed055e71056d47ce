use Rattle.syn_expr.specs.Limits.{term_levels}
use Rattle.syn_expr.proofs.Deepest.{deeper_part}
use Rattle.syn_expr.proofs.limits.atom_levels.Goals as goal

pub loop-arg-preserved : goal.loop-arg-preserved
loop-arg-preserved c = deeper_part term_levels _ _ _ _ _ _ _ c.loop-arg-test.true c.arg-item.is c.loop-arg.invariant c.term_levels.ensures c.greater-deepest.ensures
