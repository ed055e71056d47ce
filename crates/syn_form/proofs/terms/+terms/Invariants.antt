use Rattle.std.proofs.Common.{◌+◌, ◌*◌, All, take}
use Rattle.syn_form.specs.Plain.{IsSorted}
use Rattle.syn_form.proofs.terms.+terms.Given as goal

-- a tree is larger than its parts, and the parts come before each of them
abbrev pub decreases-is_sorted : goal.decreases-is_sorted
decreases-is_sorted l = 2 * goal.size-is_sorted l

abbrev pub decreases-are_sorted : goal.decreases-are_sorted
decreases-are_sorted l = 2 * goal.size-are_sorted l + 1

-- each of the terms so far is sorted
abbrev pub invariant-are_sorted-loop-t : goal.invariant-are_sorted-loop-t
invariant-are_sorted-loop-t l = All (IsSorted l.syms) (take l.t-index l.terms)
