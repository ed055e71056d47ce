use Rattle.std.proofs.Common.{◌≡◌, map, take}
use Rattle.syn_term.specs.Terms.{bare}
use Rattle.syn_term.proofs.term.Shared+Node.+equals.Given as goal

abbrev pub decreases-equals : goal.decreases-equals
decreases-equals l = goal.size-equals l

abbrev pub invariant-loop-i : goal.invariant-loop-i
invariant-loop-i l = map bare (take l.i l.xs) ≡ map bare (take l.i l.ys)
