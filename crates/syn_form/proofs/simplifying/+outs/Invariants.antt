use Rattle.std.proofs.Common.{◌+◌, ◌*◌}
use Rattle.syn_form.specs.Trees.{out_nodes}
use Rattle.syn_form.proofs.simplifying.+outs.Given as goal

-- a tree is larger than its arms, and the arms come before each of them
abbrev pub decreases-simple_out : goal.decreases-simple_out
decreases-simple_out l = 2 * out_nodes l.o.now

abbrev pub decreases-simple_choice : goal.decreases-simple_choice
decreases-simple_choice l = 2 * (out_nodes l.u.now + out_nodes l.v.now) + 1
