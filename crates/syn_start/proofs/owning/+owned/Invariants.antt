use Rattle.std.proofs.Common.{◌≡◌, ◌+◌, ◌*◌, All, map, sum, take}
use Rattle.syn_term.specs.Bank.{Belongs, Extends}
use Rattle.syn_term.specs.Terms.{bare, nodes}
use Rattle.syn_start.proofs.owning.+owned.Given as goal

abbrev pub decreases-own_term : goal.decreases-own_term
decreases-own_term l = 2 * nodes l.t.now

abbrev pub decreases-own_terms : goal.decreases-own_terms
decreases-own_terms l = 2 * sum (map nodes l.ts.now) + 1

pub record Kept (l : goal.Live-own_terms-loop-t) : Type 0 where
  pub tree : map bare l.done ≡ map bare (take l.t-index l.ts)
  pub extends : Extends l.fn.bank l.bank
  pub belongs : All (Belongs l.bank) l.done

abbrev pub invariant-own_terms-loop-t : goal.invariant-own_terms-loop-t
invariant-own_terms-loop-t = Kept
