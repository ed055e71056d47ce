use Rattle.std.proofs.Common.{◌≡◌, map, take}
use Rattle.syn_term.specs.Bank.{Extends}
use Rattle.syn_unify.specs.Bindings.{BindsOwn}
use Rattle.syn_unify.specs.inner.Changes.{seen}
use Rattle.syn_unify.specs.inner.Solutions.{bare_binding, replaced}
use Rattle.syn_unify.proofs.pairs.put_bound.Given as goal

pub record Put (l : goal.Live-loop-b) : Type 0 where
  pub bound : map bare_binding (seen l.rest) ≡ map (replaced (seen l.one)) (seen (take l.b-index l.bound))
  pub extends : Extends l.fn.bank l.bank
  pub own : BindsOwn l.bank (seen l.rest)

abbrev pub invariant-loop-b : goal.invariant-loop-b
invariant-loop-b = Put
