use Rattle.std.proofs.Common.{◌≡◌, ◌≤◌, ◌+◌, ◌*◌, map, sum, take}
use Rattle.syn_term.specs.Terms.{greatest}
use Rattle.syn_form.specs.Substitutions.{image}
use Rattle.syn_form.specs.Trees.{form_depth, form_nodes}
use Rattle.syn_unify.specs.inner.Changes.{seen}
use Rattle.syn_unify.specs.inner.Forms.{form_under}
use Rattle.syn_unify.proofs.room_forms.+forms.Given as goal

abbrev pub decreases-room_beside_form : goal.decreases-room_beside_form
decreases-room_beside_form l = 3 * form_nodes l.f.now

abbrev pub decreases-room_over_form : goal.decreases-room_over_form
decreases-room_over_form l = 3 * form_nodes l.a.now + 1

abbrev pub decreases-room_beside_sides : goal.decreases-room_beside_sides
decreases-room_beside_sides l = 3 * (form_nodes l.a.now + form_nodes l.b.now) + 1

abbrev pub decreases-room_over_sides : goal.decreases-room_over_sides
decreases-room_over_sides l = 3 * (form_nodes l.a.now + form_nodes l.b.now) + 2

abbrev pub decreases-room_beside_forms : goal.decreases-room_beside_forms
decreases-room_beside_forms l = 3 * sum (map form_nodes l.fs.now) + 1

abbrev pub decreases-room_over_forms : goal.decreases-room_over_forms
decreases-room_over_forms l = 3 * sum (map form_nodes l.fs.now) + 2

pub record Fits (l : goal.Live-room_beside_forms-loop-f) : Type 0 where
  pub nodes_left : sum (map form_nodes (map (form_under (image (seen l.bound))) (take l.f-index l.fs))) + l.left ≡ l.size
  pub depth : greatest (map form_depth (map (form_under (image (seen l.bound))) (take l.f-index l.fs))) ≤ l.height

abbrev pub invariant-room_beside_forms-loop-f : goal.invariant-room_beside_forms-loop-f
invariant-room_beside_forms-loop-f = Fits
