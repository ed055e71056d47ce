use Rattle.std.proofs.Common.{refl}
use Rattle.syn_machine.proofs.Arms.{join_does}
use Rattle.syn_machine.proofs.forms.join.Goals as goal

pub returns-in_ok-push-in-Some-pop-clause-does : goal.returns-in_ok-push-in-Some-pop-clause-does
returns-in_ok-push-in-Some-pop-clause-does c =
    join_does c.args.work.now (record { frames = c.args.work.now.frames; values = c.args.work.now.values; truths = c.push.new.self }) c.args.connective c.in-Some-pop.first c.in-Some.second c.joined.result _ _
    c.in-Some.ensures c.in-Some-pop.ensures c.joined.ensures c.in_ok-push-in-Some-pop.ensures refl refl
