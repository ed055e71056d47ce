use Rattle.std.proofs.Common.{◌≡◌, map, take}
use Rattle.syn_term.specs.Terms.{bare}
use Rattle.syn_form.proofs.form.same_terms.Given as goal

abbrev pub invariant-loop-i : goal.invariant-loop-i
invariant-loop-i l = map bare (take l.i l.xs) ≡ map bare (take l.i l.ys)
