use Rattle.syn_eval.proofs.Rooms.{empty_room}
use Rattle.syn_eval.proofs.making.empty.Goals as goal

pub returns-in-empty-clause-fits : goal.returns-in-empty-clause-fits
returns-in-empty-clause-fits c = empty_room _ _ _ c.empty.ensures c.list.ensures
