use Rattle.std.proofs.Common.{◌≡◌, ◌≤◌, ◌+◌, ◌*◌, ◌++◌, All, map, sum, take}
use Rattle.syn_term.specs.Bank.{Belongs, Extends}
use Rattle.syn_term.specs.Terms.{bare, nodes}
use Rattle.syn_unify.specs.Bindings.{remade_nodes}
use Rattle.syn_unify.specs.inner.Changes.{becomes, cost, under}
use Rattle.syn_unify.proofs.changing.+terms.Given as goal

abbrev pub decreases-changed_term : goal.decreases-changed_term
decreases-changed_term l = 4 * nodes l.t.now

abbrev pub decreases-whole_term : goal.decreases-whole_term
decreases-whole_term l = 4 * nodes l.t.now + 1

abbrev pub decreases-put_changed : goal.decreases-put_changed
decreases-put_changed l = 4 * sum (map nodes l.ts.now) + 2

abbrev pub decreases-changed_terms : goal.decreases-changed_terms
decreases-changed_terms l = 4 * sum (map nodes l.ts.now) + 3

-- none of the terms so far has changed
pub record Stayed (l : goal.Live-changed_terms-loop-i) : Type 0 where
  pub same : map bare (take l.i l.ts) ≡ map (under (becomes l.change)) (take l.i l.ts)
  pub made : l.bank.made ≤ l.fn.bank.made + sum (map (remade_nodes (cost l.change)) (take l.i l.ts))
  pub extends : Extends l.fn.bank l.bank

abbrev pub invariant-changed_terms-loop-i : goal.invariant-changed_terms-loop-i
invariant-changed_terms-loop-i = Stayed

pub record Put (l : goal.Live-put_changed-loop-t) : Type 0 where
  pub tree : map bare l.done ≡ map bare l.fn.done ++ map (under (becomes l.change)) (take l.t-index l.ts)
  pub made : l.bank.made ≤ l.fn.bank.made + sum (map (remade_nodes (cost l.change)) (take l.t-index l.ts))
  pub extends : Extends l.fn.bank l.bank
  pub belongs : All (Belongs l.bank) l.done

abbrev pub invariant-put_changed-loop-t : goal.invariant-put_changed-loop-t
invariant-put_changed-loop-t = Put
