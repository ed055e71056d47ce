use Rattle.std.proofs.Common.{◌≡◌, take}
use Rattle.syn_start.proofs.clause_rows.push_again.Given as goal

abbrev pub invariant-loop-term : goal.invariant-loop-term
invariant-loop-term l = l.items ≡ take l.term-index l.terms
