use Rattle.std.proofs.Common.{refl, subst}
use Rattle.syn_machine.specs.inner.Steps.{TakesNumber}
use Rattle.syn_machine.proofs.Below.{below_both, below_first, below_second}
use Rattle.syn_machine.proofs.Rooming.{cut_rooms, two_taken}
use Rattle.syn_machine.proofs.returning.tell_below.Goals as goal

pub returns-in-None-clause-does : goal.returns-in-None-clause-does
returns-in-None-clause-does c = below_first c.args.work.now c.last_number.new.work c.last_number.new.work c.args.base (subst (TakesNumber c.args.work.now c.last_number.new.work) c.in-None.is c.last_number.ensures)

pub returns-in-None-last_number-clause-does : goal.returns-in-None-last_number-clause-does
returns-in-None-last_number-clause-does c =
    below_second c.args.work.now c.last_number.new.work c.last_number-in-Some.new.work c.args.base c.in-Some.second
    (subst (TakesNumber c.args.work.now c.last_number.new.work) c.in-Some.is c.last_number.ensures) (subst (TakesNumber c.last_number.new.work c.last_number-in-Some.new.work) c.in-None-last_number.is c.last_number-in-Some.ensures)

pub returns-in_ok-push-in-Some-last_number-clause-does : goal.returns-in_ok-push-in-Some-last_number-clause-does
returns-in_ok-push-in-Some-last_number-clause-does c =
    below_both c.args.work.now c.last_number.new.work c.last_number-in-Some.new.work c.args.base (record { frames = c.last_number-in-Some.new.work.frames; values = c.cut.new.values; truths = c.push.new.self }) c.in-Some.second c.in-Some-last_number.first _
    (subst (TakesNumber c.args.work.now c.last_number.new.work) c.in-Some.is c.last_number.ensures) (subst (TakesNumber c.last_number.new.work c.last_number-in-Some.new.work) c.in-Some-last_number.is c.last_number-in-Some.ensures)
    refl c.cut.ensures c.in_ok-push-in-Some-last_number.ensures refl

pub returns-in_ok-push-in-Some-last_number-clause-room : goal.returns-in_ok-push-in-Some-last_number-clause-room
returns-in_ok-push-in-Some-last_number-clause-room c left le h =
    let g = subst (TakesNumber c.args.work.now c.last_number.new.work) c.in-Some.is c.last_number.ensures in
    let k = subst (TakesNumber c.last_number.new.work c.last_number-in-Some.new.work) c.in-Some-last_number.is c.last_number-in-Some.ensures in
    cut_rooms left 0 c.args.base c.last_number-in-Some.new.work.values _ c.cut.ensures (two_taken left c.args.work.now.values c.last_number.new.work.values c.last_number-in-Some.new.work.values k.0 g.0 g.1 k.1 h)
