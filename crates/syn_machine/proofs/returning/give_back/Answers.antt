use Rattle.std.proofs.Common.{[], ◌∷◌, ◌++◌, refl, ap, ◌∙◌}
use Rattle.syn_machine.proofs.Arms.{return_does}
use Rattle.syn_machine.proofs.Rooming.{given_back}
use Rattle.syn_machine.proofs.returning.give_back.Goals as goal

pub returns-in_ok-push-in-Some-clause-does : goal.returns-in_ok-push-in-Some-clause-does
returns-in_ok-push-in-Some-clause-does c =
    return_does c.args.work.now (record { frames = c.args.work.now.frames; values = c.push.new.self; truths = c.args.work.now.truths }) c.args.base _ c.in-Some.value
    c.in-Some.ensures (c.in_ok-push-in-Some.ensures.ok ∙ ap (λ z. z ++ c.in-Some.value ∷ []) c.cut.ensures) refl refl

pub returns-in_ok-push-in-Some-clause-room : goal.returns-in_ok-push-in-Some-clause-room
returns-in_ok-push-in-Some-clause-room c left le h = given_back left c.args.base c.args.work.now.values _ _ _ c.in-Some.value c.in-Some.ensures c.cut.ensures c.in_ok-push-in-Some.ensures.ok h
