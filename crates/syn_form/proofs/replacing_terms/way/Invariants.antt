use Rattle.std.proofs.Common.{◌≡◌, take}
use Rattle.syn_form.proofs.replacing_terms.way.Given as goal

abbrev pub invariant-loop-k : goal.invariant-loop-k
invariant-loop-k l = l.way ≡ take l.k-index l.steps
