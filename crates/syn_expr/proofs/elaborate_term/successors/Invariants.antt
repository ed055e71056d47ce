use Rattle.std.proofs.Common.{◌≡◌, ◌+◌, IfSome}
use Rattle.std.specs.Option.{option_map}
use Rattle.syn_term.specs.Bank.{Belongs, Extends}
use Rattle.syn_term.specs.Terms.{bare}
use Rattle.syn_form.specs.Elaboration as elaboration
use Rattle.syn_expr.specs.inner.Spending.{Spends}
use Rattle.syn_expr.proofs.elaborate_term.successors.Given as goal

abbrev pub invariant-loop : goal.invariant-loop
invariant-loop l = (option_map bare l.top ≡ elaboration.successors l.syms l.counter) × IfSome l.top (Belongs l.bank) × Extends l.fn.bank l.bank × Spends l.fn.bank l.bank (l.counter + 1)
