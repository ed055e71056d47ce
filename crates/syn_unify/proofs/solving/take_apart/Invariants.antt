use Rattle.std.proofs.Common.{◌≡◌, All}
use Rattle.syn_term.specs.Bank.{Extends}
use Rattle.syn_unify.specs.Bindings.{BindsOwn}
use Rattle.syn_unify.specs.inner.Changes.{seen}
use Rattle.syn_unify.specs.inner.Solutions.{PairBelongs, Reached, ahead, vars_of}
use Rattle.syn_unify.proofs.solving.take_apart.Given as goal

pub record Going (l : goal.Live-loop-pair) : Type 0 where
  pub reached : Reached l.fn.syms l.fn.left (vars_of l.fn.left) (seen l.bound) l.left
  pub same : l.syms ≡ l.fn.syms
  pub extends : Extends l.fn.bank l.bank
  pub own : BindsOwn l.bank (seen l.bound)
  pub left : All (PairBelongs l.bank) l.left

abbrev pub invariant-loop-pair : goal.invariant-loop-pair
invariant-loop-pair = Going

abbrev pub decreases-loop-pair : goal.decreases-loop-pair
decreases-loop-pair l = ahead (vars_of l.fn.left) (seen l.bound) l.left
