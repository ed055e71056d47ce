use Rattle.std.proofs.Common.{◌≡◌, ◌≤◌, ◌+◌, ◌*◌, All, map, sum, take}
use Rattle.syn_term.specs.Bank.{Belongs, Extends}
use Rattle.syn_term.specs.Terms.{bare, nodes}
use Rattle.syn_form.specs.Inputs.{with_inputs}
use Rattle.syn_form.proofs.inputs.+terms.Given as goal

abbrev pub decreases-put_in_term : goal.decreases-put_in_term
decreases-put_in_term l = 2 * nodes l.t.now

abbrev pub decreases-put_in_terms : goal.decreases-put_in_terms
decreases-put_in_terms l = 2 * sum (map nodes l.ts.now) + 1

pub record Kept (l : goal.Live-put_in_terms-loop-t) : Type 0 where
  pub tree : map bare l.done ≡ map bare (map (with_inputs l.inputs) (take l.t-index l.ts))
  pub made : l.bank.made ≤ l.fn.bank.made + sum (map nodes (take l.t-index l.ts))
  pub extends : Extends l.fn.bank l.bank
  pub belongs : All (Belongs l.bank) l.done

abbrev pub invariant-put_in_terms-loop-t : goal.invariant-put_in_terms-loop-t
invariant-put_in_terms-loop-t = Kept
