use Rattle.std.proofs.Common.{length}
use Rattle.syn_eval.proofs.choosing.+choose.Given as goal

-- one clause less
abbrev pub decreases-choose : goal.decreases-choose
decreases-choose g l = length l.rules.now
