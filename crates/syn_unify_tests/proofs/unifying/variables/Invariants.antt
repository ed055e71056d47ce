use Rattle.syn_term.specs.Bank.{Belongs, Extends}
use Rattle.syn_unify_tests.proofs.unifying.variables.Given as goal

pub record Kept (l : goal.Live-loop-i) : Type 0 where
  pub extends : Extends l.fn.bank l.bank
  pub belongs : Belongs l.bank l.list

abbrev pub invariant-loop-i : goal.invariant-loop-i
invariant-loop-i = Kept
