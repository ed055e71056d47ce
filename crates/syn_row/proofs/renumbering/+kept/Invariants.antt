use Rattle.std.proofs.Common.{◌≡◌, ◌+◌, ◌*◌, map, sum, take}
use Rattle.syn_term.specs.Terms.{bare, nodes}
use Rattle.syn_row.specs.inner.Renumbering.{renumbered}
use Rattle.syn_row.proofs.renumbering.+kept.Given as goal

abbrev pub decreases-keeps_term : goal.decreases-keeps_term
decreases-keeps_term l = 2 * nodes l.t.now

abbrev pub decreases-keeps_terms : goal.decreases-keeps_terms
decreases-keeps_terms l = 2 * sum (map nodes l.terms.now) + 1

abbrev pub invariant-keeps_terms-loop-t : goal.invariant-keeps_terms-loop-t
invariant-keeps_terms-loop-t l = map (λ t. bare (renumbered l.first l.vars t)) (take l.t-index l.terms) ≡ map bare (take l.t-index l.terms)
