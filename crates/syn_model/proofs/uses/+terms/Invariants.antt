use Rattle.std.proofs.Common.{◌+◌, ◌*◌, All, take}
use Rattle.syn_model.specs.Clauses.{UsesTerm}
use Rattle.syn_model.proofs.uses.+terms.Given as goal

-- a tree is larger than its parts, and the parts come before each of them
abbrev pub decreases-uses_term : goal.decreases-uses_term
decreases-uses_term l = 2 * goal.size-uses_term l

abbrev pub decreases-uses_terms : goal.decreases-uses_terms
decreases-uses_terms l = 2 * goal.size-uses_terms l + 1

abbrev pub invariant-uses_terms-loop-t : goal.invariant-uses_terms-loop-t
invariant-uses_terms-loop-t l = All (UsesTerm l.own l.rest) (take l.t-index l.terms)
