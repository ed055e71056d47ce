use Rattle.std.proofs.Common.{◌≡◌, ◌≤◌, ◌+◌, ◌*◌, All, map, sum, take}
use Rattle.syn_term.specs.Bank.{Belongs, Extends}
use Rattle.syn_term.specs.Terms.{bare, nodes}
use Rattle.syn_row.specs.inner.Renumbering.{renumbered}
use Rattle.syn_row.proofs.renumbering.+terms.Given as goal

abbrev pub decreases-renumber_term : goal.decreases-renumber_term
decreases-renumber_term l = 2 * nodes l.t.now

abbrev pub decreases-renumber_terms : goal.decreases-renumber_terms
decreases-renumber_terms l = 2 * sum (map nodes l.terms.now) + 1

pub record Kept (l : goal.Live-renumber_terms-loop-t) : Type 0 where
  pub tree : map bare l.done ≡ map bare (map (renumbered l.first l.vars) (take l.t-index l.terms))
  pub made : l.bank.made ≤ l.fn.bank.made + sum (map nodes (take l.t-index l.terms))
  pub extends : Extends l.fn.bank l.bank
  pub belongs : All (Belongs l.bank) l.done

abbrev pub invariant-renumber_terms-loop-t : goal.invariant-renumber_terms-loop-t
invariant-renumber_terms-loop-t = Kept
