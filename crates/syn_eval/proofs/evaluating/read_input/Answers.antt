use Rattle.std.proofs.Common.{arith}
use Rattle.syn_eval.proofs.Rooms.{input_room, inputs_rooms}
use Rattle.syn_eval.proofs.evaluating.read_input.Goals as goal

pub returns-in_ok-input_value-in-empty-clause-fits : goal.returns-in_ok-input_value-in-empty-clause-fits
returns-in_ok-input_value-in-empty-clause-fits c = input_room c.args.turns c.args.scope.now.set.now _ _ _ (omega (arith, c.ranges.turns.fits)) c.in_ok-input_value-in-empty.ensures (inputs_rooms c.args.scope.now c.args.turns c.requires.fits)
