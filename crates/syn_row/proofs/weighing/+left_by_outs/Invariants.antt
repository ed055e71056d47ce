use Rattle.std.proofs.Common.{length}
use Rattle.syn_row.proofs.weighing.+left_by_outs.Given as goal

-- the rest is shorter
abbrev pub decreases-left_by_outs : goal.decreases-left_by_outs
decreases-left_by_outs l = length l.outs.now
