use Rattle.std.proofs.Common.{◌≡◌, ◌++◌, length}
use Rattle.syn_value.proofs.value.Values.from_items.Given as goal

abbrev pub invariant-loop-last : goal.invariant-loop-last
invariant-loop-last l = l.values ++ l.made ≡ l.initial.values

abbrev pub decreases-loop-last : goal.decreases-loop-last
decreases-loop-last l = length l.values
