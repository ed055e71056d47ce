use Rattle.std.proofs.Common.{◌≡◌, length, take}
use Rattle.syn_machine.proofs.lists.cut.Given as goal

-- what stays is still there
abbrev pub invariant-loop-values : goal.invariant-loop-values
invariant-loop-values l = take l.base l.values ≡ take l.base l.initial.values

abbrev pub decreases-loop-values : goal.decreases-loop-values
decreases-loop-values l = length l.values
