use Rattle.syn_form.specs.Substitutions.{image}
use Rattle.syn_unify.specs.inner.Changes.{seen}
use Rattle.syn_unify.proofs.RoomForms.{room_at_choice, room_at_given, room_not_first, room_two}
use Rattle.syn_unify.proofs.room_forms.+outs.Goals as goal

pub room_beside_arms-returns-in-None : goal.room_beside_arms-returns-in-None
room_beside_arms-returns-in-None t c = room_not_first _ _ _ _ _ _ _ c.in-None.is c.room_beside_out.ensures

pub room_beside_arms-returns-in-Some : goal.room_beside_arms-returns-in-Some
room_beside_arms-returns-in-Some t c = room_two _ _ _ _ _ _ _ _ _ c.in-Some.is c.room_beside_out.ensures c.room_beside_out-in-Some.ensures

pub room_beside_parts-returns-in-None : goal.room_beside_parts-returns-in-None
room_beside_parts-returns-in-None t c = room_not_first _ _ _ _ _ _ _ c.in-None.is c.room_beside_form.ensures

pub room_beside_parts-returns-in-Some : goal.room_beside_parts-returns-in-Some
room_beside_parts-returns-in-Some t c = room_two _ _ _ _ _ _ _ _ _ c.in-Some.is c.room_beside_form.ensures c.room_beside_arms.ensures

pub room_beside_out-returns-in-Give : goal.room_beside_out-returns-in-Give
room_beside_out-returns-in-Give t c = room_at_given (image (seen c.args.bound.now)) _ _ _ _ _ c.in-Give.is c.room_beside.ensures

pub room_beside_out-returns-in-If : goal.room_beside_out-returns-in-If
room_beside_out-returns-in-If t c = room_at_choice (image (seen c.args.bound.now)) _ _ _ _ _ _ _ _ _ _ c.in-If.is c.get.ensures c.get-in-If.ensures c.get-in-If-2.ensures c.room_over_parts.ensures
