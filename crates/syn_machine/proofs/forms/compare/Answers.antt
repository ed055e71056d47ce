use Rattle.std.proofs.Common.{refl}
use Rattle.syn_machine.proofs.Arms.{same_does_end}
use Rattle.syn_machine.proofs.Rooming.{none_used, two_taken}
use Rattle.syn_machine.proofs.forms.compare.Goals as goal

pub returns-in_ok-push-in-Some-pop-clause-does : goal.returns-in_ok-push-in-Some-pop-clause-does
returns-in_ok-push-in-Some-pop-clause-does c =
    same_does_end c.args.work.now (record { frames = c.args.work.now.frames; values = c.pop-in-Some.new.self; truths = c.push.new.self }) _ _ c.in-Some-pop.first c.in-Some.second c.same-is.result
    c.in-Some.ensures c.in-Some-pop.ensures c.same-is.ensures refl c.in_ok-push-in-Some-pop.ensures refl

pub returns-in_ok-push-in-Some-pop-clause-room : goal.returns-in_ok-push-in-Some-pop-clause-room
returns-in_ok-push-in-Some-pop-clause-room c left le h = none_used left _ _ refl (two_taken left c.args.work.now.values _ _ c.in-Some-pop.first c.in-Some.second c.in-Some.ensures c.in-Some-pop.ensures h)
