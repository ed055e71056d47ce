use Rattle.std.proofs.Common.{◌+◌, ◌*◌, All, take}
use Rattle.syn_form.specs.Trees.{term_vars}
use Rattle.syn_model.specs.inner.Closing.{bound_vars}
use Rattle.syn_model.specs.Declaring.{AreAmong}
use Rattle.syn_model.proofs.closed.+terms.Given as goal

-- a tree is larger than its parts, and the parts come before each of them
abbrev pub decreases-term_is_bound : goal.decreases-term_is_bound
decreases-term_is_bound l = 2 * goal.size-term_is_bound l

abbrev pub decreases-terms_are_bound : goal.decreases-terms_are_bound
decreases-terms_are_bound l = 2 * goal.size-terms_are_bound l + 1

abbrev pub invariant-terms_are_bound-loop-t : goal.invariant-terms_are_bound-loop-t
invariant-terms_are_bound-loop-t l = All (λ s. AreAmong (term_vars s) (bound_vars l.bound)) (take l.t-index l.terms)
