use Rattle.syn_form.specs.Trees.{out_nodes}
use Rattle.syn_form.proofs.trees.Out.+is_one.Given as goal

abbrev pub decreases-is_one : goal.decreases-is_one
decreases-is_one l = out_nodes l.self.now
