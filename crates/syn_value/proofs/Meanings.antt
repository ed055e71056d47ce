-- What a kept value is, read off its node.
use Rattle.std.proofs.Common.{◌≡◌, ℕ, List}
use denote.Hole.Carrier.{roll}
use Rattle.syn_value.specs.declared.tree.ValueTree.{ValueTree}
use Rattle.syn_value.specs.declared.tree.ValueTree.TheVariants as tree
use Rattle.syn_value.specs.declared.tree.ValueTree.TheViews as view
use Rattle.syn_value.specs.declared.nodes.Node.{roll-Node, fold-roll-Node}
use Rattle.syn_value.specs.declared.nodes.Node.TheOpen.{Node-F}
use Rattle.syn_value.specs.declared.nodes.Seq.{Seq}
use Rattle.syn_value.specs.declared.nodes.Node.TheVariants as node
use Rattle.syn_value.specs.inner.Nodes.{items, meaning, node_step, seq_step, cell_step}

pub meaning-Num : (n : ℕ) → meaning (node.Num n) ≡ tree.Num n
unfolding roll-Node roll
meaning-Num n = fold-roll-Node ValueTree (List ValueTree) (List ValueTree) node_step seq_step cell_step (Node-F.Num n)

pub meaning-List : (s : Seq) → meaning (node.List s) ≡ view.List (items s)
unfolding roll-Node roll
meaning-List s = fold-roll-Node ValueTree (List ValueTree) (List ValueTree) node_step seq_step cell_step (Node-F.List s)

pub meaning-Tuple : (s : Seq) → meaning (node.Tuple s) ≡ view.Tuple (items s)
unfolding roll-Node roll
meaning-Tuple s = fold-roll-Node ValueTree (List ValueTree) (List ValueTree) node_step seq_step cell_step (Node-F.Tuple s)
