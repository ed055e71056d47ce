use Rattle.std.proofs.Common.{◌≡◌, ◌+◌, ◌*◌, ◌++◌, take}
use Rattle.std.specs.List.{flat_map}
use Rattle.syn_row.specs.Calls.{calls_standing_form}
use Rattle.syn_row.proofs.calls.+forms.Given as goal

-- a tree is larger than its parts, and the parts come before each of them
abbrev pub decreases-put_form_calls : goal.decreases-put_form_calls
decreases-put_form_calls l = 2 * goal.size-put_form_calls l

abbrev pub decreases-put_forms_calls : goal.decreases-put_forms_calls
decreases-put_forms_calls l = 2 * goal.size-put_forms_calls l + 1

abbrev pub invariant-put_forms_calls-loop-g : goal.invariant-put_forms_calls-loop-g
invariant-put_forms_calls-loop-g l = l.calls ≡ l.initial.calls ++ flat_map (calls_standing_form l.f) (take l.g-index l.all)
