use Rattle.syn_model.proofs.PatternLaws.{counted_argument}
use Rattle.syn_model.proofs.patterns.patterns_in.Goals as goal

pub loop-i-preserved : goal.loop-i-preserved
loop-i-preserved c = counted_argument _ _ _ _ _ _ _ c.loop-i-test.true c.index-args-i.is c.head.ensures c.loop-i.invariant c.counted_next-found.ensures
