use Rattle.syn_term.specs.Bank.{Belongs, Extends}
use Rattle.syn_unify_tests.proofs.limits.tower.Given as goal

pub record Kept (l : goal.Live-loop) : Type 0 where
  pub extends : Extends l.fn.bank l.bank
  pub belongs : Belongs l.bank l.t

abbrev pub invariant-loop : goal.invariant-loop
invariant-loop = Kept
