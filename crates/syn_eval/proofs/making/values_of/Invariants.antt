use Rattle.std.proofs.Common.{◌≡◌, ◌≤◌, drop, length}
use Rattle.syn_eval.proofs.making.values_of.Given as goal

-- the values from the place on
abbrev pub invariant-loop-i : goal.invariant-loop-i
invariant-loop-i l = (l.i ≤ length l.args) × (l.made ≡ drop l.i l.args)

abbrev pub decreases-loop-i : goal.decreases-loop-i
decreases-loop-i l = l.i
