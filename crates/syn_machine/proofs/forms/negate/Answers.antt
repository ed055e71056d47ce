use Rattle.std.proofs.Common.{refl}
use Rattle.syn_machine.proofs.Arms.{negate_does}
use Rattle.syn_machine.proofs.forms.negate.Goals as goal

pub returns-in_ok-push-in-Some-clause-does : goal.returns-in_ok-push-in-Some-clause-does
returns-in_ok-push-in-Some-clause-does c =
    negate_does c.args.work.now (record { frames = c.args.work.now.frames; values = c.args.work.now.values; truths = c.push.new.self }) c.in-Some.is' _ c.in-Some.ensures c.in_ok-push-in-Some.ensures refl refl
