use Rattle.syn_term.specs.Bank.{Belongs}
use Rattle.syn_base_tests.proofs.positions.number.Given as goal

-- the term made so far is the bank's
abbrev pub invariant-loop : goal.invariant-loop
invariant-loop l = Belongs l.bank l.t
