use Rattle.std.proofs.Common.{◌+◌, ◌*◌, All, take}
use Rattle.syn_form.specs.Trees.{term_vars}
use Rattle.syn_model.specs.Declaring.{AreAmong}
use Rattle.syn_model.proofs.among.+over.Given as goal

-- a tree is larger than its parts, and the parts come before each of them
abbrev pub decreases-term_is_over : goal.decreases-term_is_over
decreases-term_is_over l = 2 * goal.size-term_is_over l

abbrev pub decreases-terms_are_over : goal.decreases-terms_are_over
decreases-terms_are_over l = 2 * goal.size-terms_are_over l + 1

abbrev pub invariant-terms_are_over-loop-t : goal.invariant-terms_are_over-loop-t
invariant-terms_are_over-loop-t l = All (λ s. AreAmong (term_vars s) l.vars) (take l.t-index l.terms)
