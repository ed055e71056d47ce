use Rattle.std.proofs.Common.{◌*◌, ◌<◌, ◌∙◌, length, sym, ap, arith}
use Rattle.std.specs.Option.{option_copied}
use Rattle.syn_term.specs.Terms.{depth_of, nodes}
use Rattle.syn_form.proofs.MadeTerms.{no_more_than_all}
use Rattle.syn_form.specs.Substitutions.{image}
use Rattle.syn_unify.specs.inner.Changes.{seen, under}
use Rattle.syn_unify.proofs.Rooms.{room_at_image, room_at_leaf, room_at_symbol, room_more, room_none}
use Rattle.syn_unify.proofs.room.+room.Goals as goal

pub room_beside_all-room_beside-requires : goal.room_beside_all-room_beside-requires
room_beside_all-room_beside-requires t c =
    let within : c.loop-t.t-index < length c.args.ts.now = omega arith in
    let most = no_more_than_all nodes _ _ _ _ within c.t-item.is in
    let less : 3 * nodes c.t-item.result < t = omega arith in (less, _)

pub room_beside_all-returns-in-None : goal.room_beside_all-returns-in-None
room_beside_all-returns-in-None t c = room_none (under (image (seen c.args.bound.now))) nodes depth_of _ _ _ _ c.loop-t-test.true c.t-item.is _ _ _ _ c.in-None.is c.loop-t.invariant.nodes_left c.room_beside.ensures

pub room_beside_all-loop-t-preserved : goal.room_beside_all-loop-t-preserved
room_beside_all-loop-t-preserved t c =
    let h = room_more (under (image (seen c.args.bound.now))) nodes depth_of _ _ _ _ c.loop-t-test.true c.t-item.is _ _ _ _ _ c.in-Some.is c.loop-t.invariant.nodes_left c.loop-t.invariant.depth c.room_beside.ensures in
    record { nodes_left = h.0; depth = h.1 }

pub room_beside-returns-in-Some : goal.room_beside-returns-in-Some
room_beside-returns-in-Some t c = room_at_image (seen c.args.bound.now) _ _ _ _ _ _ _ (sym c.get.ensures ∙ c.in-Var.is) (sym c.bound_term.ensures ∙ ap option_copied c.in-Some.is) c.room_beside_image.ensures

pub room_beside-returns-in-None : goal.room_beside-returns-in-None
room_beside-returns-in-None t c = room_at_leaf (seen c.args.bound.now) _ _ _ _ _ _ (sym c.get.ensures ∙ c.in-Var.is) (sym c.bound_term.ensures ∙ ap option_copied c.in-None.is) c.room_beside_leaf.ensures

pub room_beside-returns-in-App : goal.room_beside-returns-in-App
room_beside-returns-in-App t c = room_at_symbol (seen c.args.bound.now) _ _ _ _ _ _ _ _ (sym c.get.ensures ∙ c.in-App.is) c.as_slice.ensures c.room_over.ensures
