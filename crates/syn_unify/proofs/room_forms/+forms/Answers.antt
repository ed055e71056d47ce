use Rattle.std.proofs.Common.{◌*◌, ◌<◌, ◌∙◌, length, arith}
use Rattle.syn_form.specs.Substitutions.{image}
use Rattle.syn_form.specs.Trees.{form_depth, form_nodes}
use Rattle.syn_form.proofs.Fewer.{no_more}
use Rattle.syn_unify.specs.inner.Changes.{seen}
use Rattle.syn_unify.specs.inner.Forms.{form_under}
use Rattle.syn_unify.proofs.RoomForms.{room_at_atom, room_at_conjunction, room_at_disjunction, room_at_equality, room_at_false, room_at_implication, room_at_negation, room_at_true, room_not_first, room_two}
use Rattle.syn_unify.proofs.Rooms.{room_more, room_none}
use Rattle.syn_unify.proofs.room_forms.+forms.Goals as goal

pub room_beside_form-returns-in-True : goal.room_beside_form-returns-in-True
room_beside_form-returns-in-True t c = room_at_true (image (seen c.args.bound.now)) _ _ _ _ c.in-True.is c.room_beside_leaf.ensures

pub room_beside_form-returns-in-False : goal.room_beside_form-returns-in-False
room_beside_form-returns-in-False t c = room_at_false (image (seen c.args.bound.now)) _ _ _ _ c.in-False.is c.room_beside_leaf-in-False.ensures

pub room_beside_form-returns-in-Atom : goal.room_beside_form-returns-in-Atom
room_beside_form-returns-in-Atom t c = room_at_atom (image (seen c.args.bound.now)) _ _ _ _ _ _ _ c.in-Atom.is (c.as_slice.ensures ∙ c.get.ensures) c.room_over.ensures

pub room_beside_form-returns-in-Equal : goal.room_beside_form-returns-in-Equal
room_beside_form-returns-in-Equal t c = room_at_equality (image (seen c.args.bound.now)) _ _ _ _ _ _ c.in-Equal.is c.room_over_terms.ensures

pub room_beside_form-returns-in-Not : goal.room_beside_form-returns-in-Not
room_beside_form-returns-in-Not t c = room_at_negation (image (seen c.args.bound.now)) _ _ _ _ _ _ c.in-Not.is c.get-in-Not.ensures c.room_over_form.ensures

pub room_beside_form-returns-in-And : goal.room_beside_form-returns-in-And
room_beside_form-returns-in-And t c = room_at_conjunction (image (seen c.args.bound.now)) _ _ _ _ _ _ c.in-And.is (c.as_slice-in-And.ensures ∙ c.get-in-And.ensures) c.room_over_forms.ensures

pub room_beside_form-returns-in-Or : goal.room_beside_form-returns-in-Or
room_beside_form-returns-in-Or t c = room_at_disjunction (image (seen c.args.bound.now)) _ _ _ _ _ _ c.in-Or.is (c.as_slice-in-Or.ensures ∙ c.get-in-Or.ensures) c.room_over_forms-in-Or.ensures

pub room_beside_form-returns-in-Implies : goal.room_beside_form-returns-in-Implies
room_beside_form-returns-in-Implies t c = room_at_implication (image (seen c.args.bound.now)) _ _ _ _ _ _ _ _ c.in-Implies.is c.get-in-Implies.ensures c.get-in-Implies-2.ensures c.room_over_sides.ensures

pub room_beside_sides-returns-in-None : goal.room_beside_sides-returns-in-None
room_beside_sides-returns-in-None t c = room_not_first _ _ _ _ _ _ _ c.in-None.is c.room_beside_form.ensures

pub room_beside_sides-returns-in-Some : goal.room_beside_sides-returns-in-Some
room_beside_sides-returns-in-Some t c = room_two _ _ _ _ _ _ _ _ _ c.in-Some.is c.room_beside_form.ensures c.room_beside_form-in-Some.ensures

pub room_beside_forms-room_beside_form-requires : goal.room_beside_forms-room_beside_form-requires
room_beside_forms-room_beside_form-requires t c =
    let within : c.loop-f.f-index < length c.args.fs.now = omega arith in
    let most = no_more _ _ _ _ within c.f-item.is in
    let less : 3 * form_nodes c.f-item.result < t = omega arith in (less, _)

pub room_beside_forms-returns-in-None : goal.room_beside_forms-returns-in-None
room_beside_forms-returns-in-None t c = room_none (form_under (image (seen c.args.bound.now))) form_nodes form_depth _ _ _ _ c.loop-f-test.true c.f-item.is _ _ _ _ c.in-None.is c.loop-f.invariant.nodes_left c.room_beside_form.ensures

pub room_beside_forms-loop-f-preserved : goal.room_beside_forms-loop-f-preserved
room_beside_forms-loop-f-preserved t c =
    let h = room_more (form_under (image (seen c.args.bound.now))) form_nodes form_depth _ _ _ _ c.loop-f-test.true c.f-item.is _ _ _ _ _ c.in-Some.is c.loop-f.invariant.nodes_left c.loop-f.invariant.depth c.room_beside_form.ensures in
    record { nodes_left = h.0; depth = h.1 }
