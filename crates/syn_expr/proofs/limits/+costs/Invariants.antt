use Rattle.std.proofs.Common.{◌≡◌, ◌+◌, ◌*◌, min, take}
use Rattle.std.specs.List.{sum_by}
use Rattle.syn_expr.specs.Limits.{form_cost}
use Rattle.syn_expr.proofs.limits.+costs.Given as goal

-- a formula is larger than its parts, and what counts several comes before each of them
abbrev pub decreases-form_cost : goal.decreases-form_cost
decreases-form_cost l = 2 * goal.size-form_cost l

abbrev pub decreases-forms_cost : goal.decreases-forms_cost
decreases-forms_cost l = 2 * goal.size-forms_cost l + 1

abbrev pub invariant-forms_cost-loop-part : goal.invariant-forms_cost-loop-part
invariant-forms_cost-loop-part l = l.total ≡ min (1 + sum_by form_cost (take l.part-index l.all)) (l.cap + 1)
