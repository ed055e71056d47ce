use Rattle.std.proofs.Common.{◌+◌, ◌*◌, All, take}
use Rattle.syn_model.specs.Clauses.{UsesForm}
use Rattle.syn_model.proofs.uses.+forms.Given as goal

-- a tree is larger than its parts, and the parts come before each of them
abbrev pub decreases-uses_form : goal.decreases-uses_form
decreases-uses_form l = 2 * goal.size-uses_form l

abbrev pub decreases-uses_forms : goal.decreases-uses_forms
decreases-uses_forms l = 2 * goal.size-uses_forms l + 1

abbrev pub invariant-uses_forms-loop-f : goal.invariant-uses_forms-loop-f
invariant-uses_forms-loop-f l = All (UsesForm l.own l.rest) (take l.f-index l.all)
