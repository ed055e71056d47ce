use Rattle.std.proofs.Common.{◌≡◌, ◌+◌, ◌*◌, take}
use Rattle.std.specs.List.{flat_map}
use Rattle.syn_form.specs.Trees.{term_vars}
use Rattle.syn_row.specs.inner.Noting.{noted}
use Rattle.syn_row.proofs.occurrences.+terms.Given as goal

-- a term is larger than its parts, and the parts come before each of them
abbrev pub decreases-note_term : goal.decreases-note_term
decreases-note_term l = 2 * goal.size-note_term l

abbrev pub decreases-note_terms : goal.decreases-note_terms
decreases-note_terms l = 2 * goal.size-note_terms l + 1

abbrev pub invariant-note_terms-loop-t : goal.invariant-note_terms-loop-t
invariant-note_terms-loop-t l = l.vars ≡ noted l.initial.vars (flat_map term_vars (take l.t-index l.terms))
