use Rattle.std.proofs.Common.{◌≡◌, ◌+◌, ◌*◌, All, map, sum, take}
use Rattle.syn_term.specs.Bank.{Belongs, Extends}
use Rattle.syn_term.specs.Terms.{bare, nodes, sort_of}
use Rattle.syn_extract.specs.Final.{closed_term}
use Rattle.syn_extract.proofs.closing.+terms.Given as goal

abbrev pub decreases-close_term : goal.decreases-close_term
decreases-close_term l = 2 * nodes l.t.now

abbrev pub decreases-close_terms : goal.decreases-close_terms
decreases-close_terms l = 2 * sum (map nodes l.ts.now) + 1

pub record Kept (l : goal.Live-close_terms-loop-t) : Type 0 where
  pub tree : map bare l.done ≡ map (closed_term l.syms) (take l.t-index l.ts)
  pub sort : map (sort_of l.syms) l.done ≡ map (sort_of l.syms) (take l.t-index l.ts)
  pub extends : Extends l.fn.bank l.bank
  pub belongs : All (Belongs l.bank) l.done

abbrev pub invariant-close_terms-loop-t : goal.invariant-close_terms-loop-t
invariant-close_terms-loop-t = Kept
