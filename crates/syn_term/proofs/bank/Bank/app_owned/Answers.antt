use Rattle.syn_term.proofs.Banks.{application_belongs}
use Rattle.syn_term.proofs.bank.Bank.app_owned.Goals as goal

pub returns-clause-belongs : goal.returns-clause-belongs
returns-clause-belongs c =
    application_belongs _ _ _ _ _ _ c.place-place.ensures.number c.place-place.ensures.made c.in_ok-new.ensures
    c.requires.args
