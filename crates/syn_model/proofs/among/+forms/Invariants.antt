use Rattle.std.proofs.Common.{◌+◌, ◌*◌, All, take}
use Rattle.syn_form.specs.Trees.{form_vars}
use Rattle.syn_model.specs.Declaring.{AreAmong}
use Rattle.syn_model.proofs.among.+forms.Given as goal

-- a tree is larger than its parts, and the parts come before each of them
abbrev pub decreases-form_is_over : goal.decreases-form_is_over
decreases-form_is_over l = 2 * goal.size-form_is_over l

abbrev pub decreases-forms_are_over : goal.decreases-forms_are_over
decreases-forms_are_over l = 2 * goal.size-forms_are_over l + 1

abbrev pub invariant-forms_are_over-loop-f : goal.invariant-forms_are_over-loop-f
invariant-forms_are_over-loop-f l = All (λ g. AreAmong (form_vars g) l.vars) (take l.f-index l.all)
