use Rattle.std.proofs.Common.{◌+◌, ◌*◌, All, take}
use Rattle.syn_model.specs.inner.Closing.{bound_vars}
use Rattle.syn_form.specs.Quantified.{free_vars}
use Rattle.syn_model.specs.Declaring.{AreAmong}
use Rattle.syn_model.proofs.closed.+forms.Given as goal

-- a tree is larger than its parts, and the parts come before each of them
abbrev pub decreases-form_is_bound : goal.decreases-form_is_bound
decreases-form_is_bound l = 2 * goal.size-form_is_bound l

abbrev pub decreases-forms_are_bound : goal.decreases-forms_are_bound
decreases-forms_are_bound l = 2 * goal.size-forms_are_bound l + 1

abbrev pub invariant-forms_are_bound-loop-f : goal.invariant-forms_are_bound-loop-f
invariant-forms_are_bound-loop-f l = All (λ g. AreAmong (free_vars g) (bound_vars l.bound)) (take l.f-index l.all)
