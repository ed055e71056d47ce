use Rattle.std.proofs.Common.{length}
use Rattle.syn_row.proofs.guarding.+put_pairs.Given as goal

-- the rest is shorter
abbrev pub decreases-put_pairs : goal.decreases-put_pairs
decreases-put_pairs l = length l.inputs.now
