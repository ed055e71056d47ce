use Rattle.std.proofs.Common.{refl, sym}
use Rattle.syn_eval.proofs.Rooms.{rooms_same}
use Rattle.syn_eval.proofs.Tops.{fit_rooms}
use Rattle.syn_machine.proofs.Tops.{no_truth, truth_ends, truth_fails}
use Rattle.syn_machine.proofs.top.truth_on.Goals as goal

pub run-requires : goal.run-requires
run-requires c = rooms_same c.args.turns _ _ (sym c.in_ok-work.ensures.values) (fit_rooms c.args.turns c.args.args.now c.requires)

pub returns-in-Err : goal.returns-in-Err
returns-in-Err c = truth_fails c.args.set.now c.args.form c.args.args.now c.args.turns c.in_ok-work.work _ c.in_ok-work.ensures.frames c.in_ok-work.ensures.values c.in_ok-work.ensures.truths refl c.run.new.work c.in-Err.error c.in-Err.ensures.does

pub returns-in-None : goal.returns-in-None
returns-in-None c = no_truth c.args.set.now c.args.form c.args.args.now c.args.turns c.in_ok-work.work _ c.in_ok-work.ensures.frames c.in_ok-work.ensures.values c.in_ok-work.ensures.truths refl c.run.new.work c.in-Ok.field-0 c.in-Ok.ensures.does c.in-None.ensures

pub returns-in-Some : goal.returns-in-Some
returns-in-Some c = truth_ends c.args.set.now c.args.form c.args.args.now c.args.turns c.in_ok-work.work _ c.in_ok-work.ensures.frames c.in_ok-work.ensures.values c.in_ok-work.ensures.truths refl c.run.new.work c.in-Ok.field-0 c.in-Ok.ensures.does c.in-Some.ensures.0 c.in-Some.is' c.in-Some.ensures.1
