use Rattle.std.proofs.Common.{arith}
use Rattle.syn_eval.proofs.Rooms.{zero_room}
use Rattle.syn_eval.proofs.making.zero.Goals as goal

pub returns-in-empty-clause-fits : goal.returns-in-empty-clause-fits
returns-in-empty-clause-fits c = zero_room c.args.turns _ (omega (arith, c.ranges.turns.fits)) c.number.ensures
