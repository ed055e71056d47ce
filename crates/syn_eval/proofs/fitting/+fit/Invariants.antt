use Rattle.std.proofs.Common.{length}
use Rattle.syn_eval.proofs.fitting.+fit.Given as goal

-- one argument less
abbrev pub decreases-fit : goal.decreases-fit
decreases-fit l = length l.args.now
