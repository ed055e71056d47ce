use Rattle.std.proofs.Common.{length}
use Rattle.syn_unify.proofs.bindings.+bound_term.Given as goal

abbrev pub decreases-bound_term : goal.decreases-bound_term
decreases-bound_term l = length l.bound.now
