use Rattle.std.proofs.Common.{◌≡◌, Some}
use Rattle.syn_term.specs.Bank.{Belongs, Extends}
use Rattle.syn_term.specs.Terms.{bare, sort_of}
use Rattle.syn_term.specs.declared.sorts.Sort.TheVariants as sort
use Rattle.syn_app.specs.Terms.{successors_of}
use Rattle.syn_app.proofs.rows.successors.Given as goal

abbrev pub invariant-loop : goal.invariant-loop
invariant-loop l = (bare l.top ≡ successors_of l.counter (bare l.fn.term)) × (sort_of l.syms l.top ≡ Some sort.Nat) × Belongs l.bank l.top × Extends l.fn.bank l.bank
