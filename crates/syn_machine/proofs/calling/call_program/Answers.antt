use Rattle.std.proofs.Common.{◌-◌, refl, sym, ap, ◌∙◌, arith}
use Rattle.std.specs.Option.{option_copied}
use Rattle.syn_eval.proofs.Rooms.{rooms_fewer}
use Rattle.syn_machine.proofs.Entering.{program_enters}
use Rattle.syn_machine.proofs.Pushes.{two_pushed}
use Rattle.syn_machine.proofs.calling.call_program.Goals as goal

pub returns-in_ok-push-in-Some-2-clause-does : goal.returns-in_ok-push-in-Some-2-clause-does
returns-in_ok-push-in-Some-2-clause-does c =
    program_enters c.args.work.now (record { frames = c.push-in-Some.new.self; values = c.args.work.now.values; truths = c.args.work.now.truths }) c.args.base c.requires.within c.args.set.now c.args.left c.len.result c.in-Some.out.now _
    (sym c.body.ensures ∙ ap option_copied c.in-Some.is) refl (omega arith) c.len.ensures refl refl (two_pushed _ _ _ _ _ c.in_ok-push-in-Some.ensures c.in_ok-push-in-Some-2.ensures)

pub returns-in_ok-push-in-Some-2-clause-room : goal.returns-in_ok-push-in-Some-2-clause-room
returns-in_ok-push-in-Some-2-clause-room c = rooms_fewer c.args.work.now.values c.args.left (c.args.left - 1) (omega arith) c.requires.fits
