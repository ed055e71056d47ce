use Rattle.std.proofs.Common.{arith}
use Rattle.syn_app.proofs.Closed.{nodes-term_tree, depth_of-term_tree}
use Rattle.syn_app.proofs.terms.size_of.Goals as goal

pub returns-clause-nodes : goal.returns-clause-nodes
returns-clause-nodes c = let h = nodes-term_tree c.args.term.now in omega arith

pub returns-clause-depth : goal.returns-clause-depth
returns-clause-depth c = let h = depth_of-term_tree c.args.term.now in omega arith
