use Rattle.std.proofs.Common.{length}
use Rattle.syn_resolve.proofs.positions.+put_formulas_at.Given as goal

abbrev pub decreases-put_formulas_at : goal.decreases-put_formulas_at
decreases-put_formulas_at l = length l.positions.now
