use Rattle.std.proofs.Common.{◌-◌, refl, sym}
use Rattle.syn_eval.proofs.Rooms.{rooms_same}
use Rattle.syn_eval.proofs.Tops.{fit_rooms, room_fits}
use Rattle.syn_machine.proofs.Rooming.{last_room}
use Rattle.syn_machine.proofs.Tops.{no_value, value_ends, value_fails}
use Rattle.syn_machine.proofs.top.value_on.Goals as goal

pub run-requires : goal.run-requires
run-requires c = rooms_same c.args.turns _ _ (sym c.in_ok-work.ensures.values) (fit_rooms c.args.turns c.args.args.now c.requires)

pub returns-in-Err-clause-ends : goal.returns-in-Err-clause-ends
returns-in-Err-clause-ends c = value_fails c.args.set.now c.program.result c.program.ensures c.args.args.now c.args.turns c.in_ok-work.work _ _ c.in_ok-work.ensures.frames refl c.in_ok-work.ensures.values c.in_ok-work.ensures.truths refl c.run.new.work c.in-Err.error c.in-Err.ensures.does

pub returns-in-None-clause-ends : goal.returns-in-None-clause-ends
returns-in-None-clause-ends c = no_value c.args.set.now c.program.result c.program.ensures c.args.args.now c.args.turns c.in_ok-work.work _ _ c.in_ok-work.ensures.frames refl c.in_ok-work.ensures.values c.in_ok-work.ensures.truths refl c.run.new.work c.in-Ok.used c.in-Ok.ensures.does c.in-None.ensures

pub returns-in-Some-clause-ends : goal.returns-in-Some-clause-ends
returns-in-Some-clause-ends c = value_ends c.args.set.now c.program.result c.program.ensures c.args.args.now c.args.turns c.in_ok-work.work _ _ c.in_ok-work.ensures.frames refl c.in_ok-work.ensures.values c.in_ok-work.ensures.truths refl c.run.new.work c.in-Ok.used c.in-Ok.ensures.does c.in-Some.ensures.0 c.in-Some.value c.in-Some.ensures.1

pub returns-in-Some-clause-fits : goal.returns-in-Some-clause-fits
returns-in-Some-clause-fits c = room_fits (c.args.turns - c.in-Ok.used) c.in-Some.value (last_room (c.args.turns - c.in-Ok.used) c.run.new.work.values c.in-Some.ensures.0 c.in-Some.value c.in-Some.ensures.1 c.in-Ok.ensures.room)
