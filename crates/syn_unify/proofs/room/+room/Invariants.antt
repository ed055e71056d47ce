use Rattle.std.proofs.Common.{◌≡◌, ◌≤◌, ◌+◌, ◌*◌, map, sum, take}
use Rattle.syn_term.specs.Terms.{depth_of, greatest, nodes}
use Rattle.syn_form.specs.Substitutions.{image}
use Rattle.syn_unify.specs.inner.Changes.{seen, under}
use Rattle.syn_unify.proofs.room.+room.Given as goal

abbrev pub decreases-room_beside : goal.decreases-room_beside
decreases-room_beside l = 3 * nodes l.t.now

abbrev pub decreases-room_over : goal.decreases-room_over
decreases-room_over l = 3 * sum (map nodes l.ts.now) + 2

abbrev pub decreases-room_beside_all : goal.decreases-room_beside_all
decreases-room_beside_all l = 3 * sum (map nodes l.ts.now) + 1

pub record Fits (l : goal.Live-room_beside_all-loop-t) : Type 0 where
  pub nodes_left : sum (map nodes (map (under (image (seen l.bound))) (take l.t-index l.ts))) + l.left ≡ l.size
  pub depth : greatest (map depth_of (map (under (image (seen l.bound))) (take l.t-index l.ts))) ≤ l.height

abbrev pub invariant-room_beside_all-loop-t : goal.invariant-room_beside_all-loop-t
invariant-room_beside_all-loop-t = Fits
