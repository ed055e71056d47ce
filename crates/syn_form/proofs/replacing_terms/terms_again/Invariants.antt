use Rattle.std.proofs.Common.{◌≡◌, take}
use Rattle.syn_form.proofs.replacing_terms.terms_again.Given as goal

abbrev pub invariant-loop-term : goal.invariant-loop-term
invariant-loop-term l = l.items ≡ take l.term-index l.terms
