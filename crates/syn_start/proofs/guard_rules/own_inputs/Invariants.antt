use Rattle.std.proofs.Common.{◌≡◌, All, map, take}
use Rattle.syn_term.specs.Bank.{Belongs, Extends}
use Rattle.syn_start.specs.Rules.{IsOwnTerm}
use Rattle.syn_start.proofs.guard_rules.own_inputs.Given as goal

pub record Kept (l : goal.Live-loop-id) : Type 0 where
  pub ids : map (λ b. b.0) l.done ≡ take l.id-index l.ids
  pub own : All IsOwnTerm l.done
  pub extends : Extends l.fn.bank l.bank
  pub belongs : All (λ b. Belongs l.bank b.1) l.done

abbrev pub invariant-loop-id : goal.invariant-loop-id
invariant-loop-id = Kept
