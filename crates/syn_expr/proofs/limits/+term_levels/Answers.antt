use Rattle.syn_expr.specs.Limits.{term_levels}
use Rattle.syn_expr.proofs.Deepest.{deeper_part, deepest_part}
use Rattle.syn_expr.proofs.Levels.{applied_levels}
use Rattle.syn_expr.proofs.limits.+term_levels.Goals as goal

pub loop-arg-preserved : goal.loop-arg-preserved
loop-arg-preserved t c = deeper_part term_levels _ _ _ _ _ _ _ c.loop-arg-test.true c.arg-item.is c.loop-arg.invariant c.term_levels.ensures c.greater-deepest.ensures

pub returns-after-loop-arg : goal.returns-after-loop-arg
returns-after-loop-arg t c = deepest_part term_levels _ _ _ _ _ _ _ c.as_slice-arg-items.ensures c.loop-arg-test.false (applied_levels _ _ _ c.in-Applied.is) c.loop-arg.invariant c.capped-in-Applied.ensures
