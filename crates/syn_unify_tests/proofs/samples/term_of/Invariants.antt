use Rattle.std.proofs.Common.{All}
use Rattle.syn_term.specs.Bank.{Belongs, Extends}
use Rattle.syn_unify_tests.proofs.samples.term_of.Given as goal

pub record Kept (l : goal.Live-loop-c) : Type 0 where
  pub extends : Extends l.fn.bank l.bank
  pub belongs : All (Belongs l.bank) l.terms

abbrev pub invariant-loop-c : goal.invariant-loop-c
invariant-loop-c = Kept
