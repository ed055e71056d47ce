use Rattle.syn_unify.proofs.RoomForms.{room_not_first, room_two}
use Rattle.syn_unify.proofs.room_forms.room_beside_terms.Goals as goal

pub returns-in-None : goal.returns-in-None
returns-in-None c = room_not_first _ _ _ _ _ _ _ c.in-None.is c.room_beside.ensures

pub returns-in-Some : goal.returns-in-Some
returns-in-Some c = room_two _ _ _ _ _ _ _ _ _ c.in-Some.is c.room_beside.ensures c.room_beside-in-Some.ensures
