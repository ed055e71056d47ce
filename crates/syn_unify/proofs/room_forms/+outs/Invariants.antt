use Rattle.std.proofs.Common.{◌+◌, ◌*◌}
use Rattle.syn_form.specs.Trees.{out_nodes}
use Rattle.syn_unify.proofs.room_forms.+outs.Given as goal

abbrev pub decreases-room_beside_out : goal.decreases-room_beside_out
decreases-room_beside_out l = 4 * out_nodes l.o.now

abbrev pub decreases-room_beside_arms : goal.decreases-room_beside_arms
decreases-room_beside_arms l = 4 * (out_nodes l.u.now + out_nodes l.v.now) + 1

abbrev pub decreases-room_beside_parts : goal.decreases-room_beside_parts
decreases-room_beside_parts l = 4 * (out_nodes l.u.now + out_nodes l.v.now) + 2

abbrev pub decreases-room_over_parts : goal.decreases-room_over_parts
decreases-room_over_parts l = 4 * (out_nodes l.u.now + out_nodes l.v.now) + 3
