use Rattle.std.proofs.Common.{◌≡◌, ◌+◌, ◌*◌, min, map, take}
use Rattle.syn_term.specs.Terms.{greatest}
use Rattle.syn_expr.specs.Limits.{form_levels}
use Rattle.syn_expr.proofs.limits.+levels.Given as goal

-- a formula is larger than its parts, and what counts several comes before each of them
abbrev pub decreases-form_levels : goal.decreases-form_levels
decreases-form_levels l = 2 * goal.size-form_levels l

abbrev pub decreases-forms_levels : goal.decreases-forms_levels
decreases-forms_levels l = 2 * goal.size-forms_levels l + 1

abbrev pub invariant-forms_levels-loop-part : goal.invariant-forms_levels-loop-part
invariant-forms_levels-loop-part l = l.deepest ≡ min (greatest (map form_levels (take l.part-index l.all))) (l.cap + 1)
