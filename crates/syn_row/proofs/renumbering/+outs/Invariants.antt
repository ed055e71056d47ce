use Rattle.std.proofs.Common.{◌+◌, ◌*◌}
use Rattle.syn_form.specs.Trees.{out_nodes}
use Rattle.syn_row.proofs.renumbering.+outs.Given as goal

abbrev pub decreases-renumber_out : goal.decreases-renumber_out
decreases-renumber_out l = 3 * out_nodes l.o.now

abbrev pub decreases-renumber_choice : goal.decreases-renumber_choice
decreases-renumber_choice l = 3 * (out_nodes l.u.now + out_nodes l.v.now) + 2

abbrev pub decreases-renumber_arms : goal.decreases-renumber_arms
decreases-renumber_arms l = 3 * (out_nodes l.u.now + out_nodes l.v.now) + 1
