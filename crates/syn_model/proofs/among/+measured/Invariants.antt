use Rattle.std.proofs.Common.{◌+◌, ◌*◌, All, take}
use Rattle.syn_form.specs.Trees.{term_vars}
use Rattle.syn_model.specs.Declaring.{IsNumberedIn}
use Rattle.syn_model.proofs.among.+measured.Given as goal

-- a tree is larger than its parts, and the parts come before each of them
abbrev pub decreases-is_measured_in : goal.decreases-is_measured_in
decreases-is_measured_in l = 2 * goal.size-is_measured_in l

abbrev pub decreases-are_measured_in : goal.decreases-are_measured_in
decreases-are_measured_in l = 2 * goal.size-are_measured_in l + 1

abbrev pub invariant-are_measured_in-loop-t : goal.invariant-are_measured_in-loop-t
invariant-are_measured_in-loop-t l = All (λ s. All (IsNumberedIn l.sorts) (term_vars s)) (take l.t-index l.terms)
