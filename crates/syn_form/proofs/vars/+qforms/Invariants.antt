use Rattle.std.proofs.Common.{◌≡◌, ◌+◌, ◌*◌, ◌++◌, take}
use Rattle.std.specs.List.{flat_map}
use Rattle.syn_form.specs.Quantified.{qform_vars}
use Rattle.syn_form.proofs.vars.+qforms.Given as goal

-- a tree is larger than its parts, and the parts come before each of them
abbrev pub decreases-put_qform_vars : goal.decreases-put_qform_vars
decreases-put_qform_vars l = 2 * goal.size-put_qform_vars l

abbrev pub decreases-put_qforms_vars : goal.decreases-put_qforms_vars
decreases-put_qforms_vars l = 2 * goal.size-put_qforms_vars l + 1

abbrev pub decreases-put_bound_vars : goal.decreases-put_bound_vars
decreases-put_bound_vars l = 2 * goal.size-put_bound_vars l + 1

abbrev pub invariant-put_qforms_vars-loop-f : goal.invariant-put_qforms_vars-loop-f
invariant-put_qforms_vars-loop-f l = l.vars ≡ l.initial.vars ++ flat_map qform_vars (take l.f-index l.all)
