use Rattle.syn_eval.proofs.Rooms.{tuple_room}
use Rattle.syn_eval.proofs.making.tuple.Goals as goal

pub returns-clause-fits : goal.returns-clause-fits
returns-clause-fits c = tuple_room _ _ _ _ c.in_ok-values_of.ensures c.tuple.ensures c.requires
