use Rattle.std.proofs.Common.{◌≡◌, Some, map, take}
use Rattle.syn_term.specs.Terms.{sort_of}
use Rattle.syn_term.proofs.term.have_sorts.Given as goal

abbrev pub invariant-loop-i : goal.invariant-loop-i
invariant-loop-i l = map (sort_of l.syms) (take l.i l.terms) ≡ map Some (take l.i l.sorts)
