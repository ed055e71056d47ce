use Rattle.std.proofs.Common.{sym, subst, All, ◌∙◌, ap}
use Rattle.syn_term.specs.Bank.{Belongs}
use Rattle.syn_term.specs.Positions.{with_nth}
use Rattle.syn_term.proofs.Banks.{application_belongs, others_belong}
use Rattle.syn_term.proofs.bank.Bank.with_arg.Goals as goal

pub returns-in_ok-new-in-App-clause-belongs : goal.returns-in_ok-new-in-App-clause-belongs
returns-in_ok-new-in-App-clause-belongs c =
    application_belongs _ _ _ _ _ _ c.place-place.ensures.number c.place-place.ensures.made c.in_ok-new-in-App.ensures
    (subst (All (Belongs c.args.self.now)) (sym (c.in_ok-args-in-App.ensures ∙ ap (λ xs. with_nth xs c.args.k c.args.child) c.as_slice.ensures))
    (others_belong _ _ _ _ _ _ _ _ (sym c.get.ensures) c.in-App.is c.requires.t c.requires.child))
