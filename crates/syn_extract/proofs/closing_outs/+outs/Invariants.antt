use Rattle.std.proofs.Common.{◌+◌, ◌*◌}
use Rattle.syn_form.specs.Trees.{out_nodes}
use Rattle.syn_extract.proofs.closing_outs.+outs.Given as goal

abbrev pub decreases-close_out : goal.decreases-close_out
decreases-close_out l = 3 * out_nodes l.o.now

abbrev pub decreases-close_choice : goal.decreases-close_choice
decreases-close_choice l = 3 * (out_nodes l.u.now + out_nodes l.v.now) + 2

abbrev pub decreases-close_arms : goal.decreases-close_arms
decreases-close_arms l = 3 * (out_nodes l.u.now + out_nodes l.v.now) + 1
