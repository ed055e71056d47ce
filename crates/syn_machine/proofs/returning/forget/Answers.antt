use Rattle.std.proofs.Common.{refl}
use Rattle.syn_machine.proofs.Arms.{forget_does}
use Rattle.syn_machine.proofs.Rooming.{cut_rooms}
use Rattle.syn_machine.proofs.returning.forget.Goals as goal

pub returns-clause-does : goal.returns-clause-does
returns-clause-does c = forget_does c.args.work.now (record { frames = c.args.work.now.frames; values = c.cut.new.values; truths = c.args.work.now.truths }) c.args.base c.cut.ensures refl refl

pub returns-clause-room : goal.returns-clause-room
returns-clause-room c left le h = cut_rooms left 0 c.args.base c.args.work.now.values _ c.cut.ensures h
