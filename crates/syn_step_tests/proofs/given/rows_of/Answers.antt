use Rattle.syn_step_tests.proofs.Replays.{rows_more}
use Rattle.syn_step_tests.proofs.given.rows_of.Goals as goal

pub loop-line-preserved : goal.loop-line-preserved
loop-line-preserved c = rows_more c.args.lines.now c.loop-line.line-index _ _ _ _ _ c.loop-line-test.true c.line-item.is c.loop-line.invariant c.in_ok-push.ensures.ok c.in_ok-again.ensures
