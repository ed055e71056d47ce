use Rattle.std.proofs.Common.{refl, rules}
use Rattle.syn_machine.proofs.Arms.{choose_does}
use Rattle.syn_machine.proofs.outputs.take_arm.Goals as goal
use Rattle.syn_machine.proofs.outputs.take_arm.Goals.{then-is, else-is}

pub returns-in_ok-push-in-Some-clause-does : goal.returns-in_ok-push-in-Some-clause-does
returns-in_ok-push-in-Some-clause-does c =
    choose_does c.args.work.now (record { frames = c.push.new.self; values = c.args.work.now.values; truths = c.pop.new.self }) c.args.scope c.args.first c.args.second c.if-is.out c.in-Some.is' _
    c.in-Some.ensures (elim c.if-is.branch [ then-is w ↦ search rules | else-is w ↦ search rules ]) refl refl c.in_ok-push-in-Some.ensures
