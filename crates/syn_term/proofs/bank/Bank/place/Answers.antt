use Rattle.std.proofs.Common.{refl, subst, arith}
use Rattle.syn_term.specs.Bank.{Kept, Extends, Extends-of}
use Rattle.syn_term.specs.contracts.bank.Bank.{the_view}
use Rattle.syn_term.proofs.bank.Bank.place.Goals as goal

pub returns-clause-extends : goal.returns-clause-extends
returns-clause-extends c =
    subst (λ (z : Kept). Extends z (the_view (record { made = c.saturating_add-self-inside.result }))) c.self.view_is (Extends-of _ _ (omega arith) refl)
