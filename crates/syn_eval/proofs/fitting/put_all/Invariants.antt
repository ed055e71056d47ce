use Rattle.std.proofs.Common.{◌≡◌, ◌++◌, length}
use Rattle.syn_eval.proofs.fitting.put_all.Given as goal

-- what was put down, with the rest, is all
abbrev pub invariant-loop-rest : goal.invariant-loop-rest
invariant-loop-rest l = l.found ++ l.rest ≡ l.fn.found ++ l.fn.values

abbrev pub decreases-loop-rest : goal.decreases-loop-rest
decreases-loop-rest l = length l.rest
