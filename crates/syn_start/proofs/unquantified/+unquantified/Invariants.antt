use Rattle.std.proofs.Common.{◌≡◌, ◌+◌, ◌*◌, Some, map, take}
use Rattle.syn_form.specs.Lists.{all_there}
use Rattle.syn_form.specs.Quantified.{unquantified}
use Rattle.syn_start.proofs.unquantified.+unquantified.Given as goal

-- a formula is larger than its parts, and the parts come before each of them
abbrev pub decreases-without_quantifiers : goal.decreases-without_quantifiers
decreases-without_quantifiers l = 3 * goal.size-without_quantifiers l

abbrev pub decreases-negation_without : goal.decreases-negation_without
decreases-negation_without l = 3 * goal.size-negation_without l + 1

abbrev pub decreases-conjunction_without : goal.decreases-conjunction_without
decreases-conjunction_without l = 3 * goal.size-conjunction_without l + 2

abbrev pub decreases-disjunction_without : goal.decreases-disjunction_without
decreases-disjunction_without l = 3 * goal.size-disjunction_without l + 2

abbrev pub decreases-implication_without : goal.decreases-implication_without
decreases-implication_without l = 3 * goal.size-implication_without l + 1

abbrev pub decreases-all_without : goal.decreases-all_without
decreases-all_without l = 3 * goal.size-all_without l + 1

abbrev pub invariant-all_without-loop-f : goal.invariant-all_without-loop-f
invariant-all_without-loop-f l = all_there (map unquantified (take l.f-index l.all)) ≡ Some l.parts
