use Rattle.std.proofs.Common.{sym, subst, All}
use Rattle.syn_term.specs.Bank.{Belongs}
use Rattle.syn_term.proofs.Banks.{application_belongs}
use Rattle.syn_term.proofs.bank.Bank.app.Goals as goal

pub returns-clause-belongs : goal.returns-clause-belongs
returns-clause-belongs c =
    application_belongs _ _ _ _ _ _ c.place-place.ensures.number c.place-place.ensures.made c.in_ok-new.ensures
    (subst (All (Belongs c.args.self.now)) (sym c.in_ok-args.ensures) c.requires.args)
