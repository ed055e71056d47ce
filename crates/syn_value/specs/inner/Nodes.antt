-- Private: the value that a chain of cells is.
use Rattle.std.specs.Prelude.{List, [], ◌∷◌}
use Rattle.syn_value.specs.declared.tree.ValueTree.{ValueTree}
use Rattle.syn_value.specs.declared.tree.ValueTree.TheVariants as tree
use Rattle.syn_value.specs.declared.tree.ValueTree.TheViews as view
use Rattle.syn_value.specs.declared.nodes.Node.{Node, fold-Node}
use Rattle.syn_value.specs.declared.nodes.Seq.{Seq, fold-Seq}
use Rattle.syn_value.specs.declared.nodes.Cell.{Cell, fold-Cell}
use Rattle.syn_value.specs.declared.nodes.Node.TheOpen.{Seq-F, Node-F, Cell-F}

abbrev pub seq_step : Seq-F ValueTree (List ValueTree) (List ValueTree) → List ValueTree
seq_step Seq-F.End = []
seq_step (Seq-F.More c) = c

abbrev pub node_step : Node-F ValueTree (List ValueTree) (List ValueTree) → ValueTree
node_step (Node-F.Num n) = tree.Num n
node_step (Node-F.List xs) = view.List xs
node_step (Node-F.Tuple xs) = view.Tuple xs

abbrev pub cell_step : Cell-F ValueTree (List ValueTree) (List ValueTree) → List ValueTree
cell_step c = c.item ∷ c.rest

-- the items of a chain of cells
abbrev pub items : Seq → List ValueTree
items = fold-Seq ValueTree (List ValueTree) (List ValueTree) node_step seq_step cell_step

-- the value that a node is
abbrev pub meaning : Node → ValueTree
meaning = fold-Node ValueTree (List ValueTree) (List ValueTree) node_step seq_step cell_step

-- the items from a cell on
abbrev pub items_from : Cell → List ValueTree
items_from = fold-Cell ValueTree (List ValueTree) (List ValueTree) node_step seq_step cell_step
