use Rattle.std.proofs.Common.{◌≡◌, ◌+◌, ◌*◌, ◌++◌, take}
use Rattle.std.specs.List.{flat_map}
use Rattle.syn_form.specs.Trees.{form_vars}
use Rattle.syn_form.proofs.vars.+forms.Given as goal

-- a tree is larger than its parts, and the parts come before each of them
abbrev pub decreases-put_form_vars : goal.decreases-put_form_vars
decreases-put_form_vars l = 2 * goal.size-put_form_vars l

abbrev pub decreases-put_forms_vars : goal.decreases-put_forms_vars
decreases-put_forms_vars l = 2 * goal.size-put_forms_vars l + 1

abbrev pub invariant-put_forms_vars-loop-f : goal.invariant-put_forms_vars-loop-f
invariant-put_forms_vars-loop-f l = l.vars ≡ l.initial.vars ++ flat_map form_vars (take l.f-index l.all)
