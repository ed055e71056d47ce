use Rattle.std.proofs.Common.{◌≡◌, ◌+◌, ◌*◌, take}
use Rattle.std.specs.List.{flat_map}
use Rattle.syn_form.specs.Trees.{form_vars}
use Rattle.syn_row.specs.inner.Noting.{noted}
use Rattle.syn_row.proofs.occurrences.+forms.Given as goal

-- a formula is larger than its parts, and the parts come before each of them
abbrev pub decreases-note_form : goal.decreases-note_form
decreases-note_form l = 2 * goal.size-note_form l

abbrev pub decreases-note_forms : goal.decreases-note_forms
decreases-note_forms l = 2 * goal.size-note_forms l + 1

abbrev pub invariant-note_forms-loop-f : goal.invariant-note_forms-loop-f
invariant-note_forms-loop-f l = l.vars ≡ noted l.initial.vars (flat_map form_vars (take l.f-index l.all))
