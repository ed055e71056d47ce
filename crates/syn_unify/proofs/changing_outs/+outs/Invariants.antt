use Rattle.std.proofs.Common.{◌+◌, ◌*◌}
use Rattle.syn_form.specs.Trees.{out_nodes}
use Rattle.syn_unify.proofs.changing_outs.+outs.Given as goal

abbrev pub decreases-changed_out : goal.decreases-changed_out
decreases-changed_out l = 3 * out_nodes l.o.now

abbrev pub decreases-changed_choice : goal.decreases-changed_choice
decreases-changed_choice l = 3 * (out_nodes l.u.now + out_nodes l.v.now) + 2

abbrev pub decreases-changed_arms : goal.decreases-changed_arms
decreases-changed_arms l = 3 * (out_nodes l.u.now + out_nodes l.v.now) + 1
