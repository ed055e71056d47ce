use Rattle.std.proofs.Common.{◌+◌, ◌*◌, All, take}
use Rattle.syn_model.specs.Programs.{IsPrimitiveTerm}
use Rattle.syn_extract.proofs.primitive.+terms.Given as goal

-- a tree is larger than its parts, and the parts come before each of them
abbrev pub decreases-is_primitive_term : goal.decreases-is_primitive_term
decreases-is_primitive_term l = 2 * goal.size-is_primitive_term l

abbrev pub decreases-are_primitive_terms : goal.decreases-are_primitive_terms
decreases-are_primitive_terms l = 2 * goal.size-are_primitive_terms l + 1

abbrev pub invariant-are_primitive_terms-loop-t : goal.invariant-are_primitive_terms-loop-t
invariant-are_primitive_terms-loop-t l = All (IsPrimitiveTerm l.spec) (take l.t-index l.terms)
