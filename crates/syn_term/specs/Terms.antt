-- In public contracts: terms as trees, their parts, their numbers, and when two of them are one tree.
use Rattle.std.specs.Prelude.{◌≡◌, ℕ, zero, suc, ◌+◌, ◌≢◌, max, sum, List, [], ◌∷◌, Option, None, Some, map, slice_get}
use Rattle.std.specs.Option.{option_and_then}
use Rattle.syn_term.specs.declared.sorts.Sort.{Sort}
use Rattle.syn_term.specs.declared.sorts.Sym.{Sym}
use Rattle.syn_term.specs.declared.sorts.SymId.{SymId}
use Rattle.syn_term.specs.declared.sorts.Kind.TheVariants as kind
use Rattle.syn_term.specs.declared.sorts.Head.{Head}
use Rattle.syn_term.specs.declared.sorts.Head.TheVariants as head
use Rattle.syn_term.specs.declared.sorts.Var.{Var}
use Rattle.syn_term.specs.declared.term.Place.{Place}
use Rattle.syn_term.specs.declared.term.Node.{Node, out-Node, fold-Node}
use Rattle.syn_term.specs.declared.term.Node.TheOpen.{Node-F}
use Rattle.syn_term.specs.declared.term.Node.TheVariants as node
use Rattle.syn_term.specs.declared.term.Node.TheViews as view
use Rattle.syn_term.specs.Symbols.{SymbolTable, symbol_at}

-- a term is the tree of its nodes
abbrev pub TermTree : Type 0
TermTree = Node

abbrev args_layer : Node-F Node → List Node
args_layer (Node-F.Var place v) = []
args_layer (Node-F.App place f args) = args

-- the arguments of the symbol at the top; a variable has none
abbrev pub args_of : TermTree → List TermTree
args_of t = args_layer (out-Node t)

-- the k-th argument, counted from 1
abbrev pub child : TermTree → ℕ → Option TermTree
child t zero = None
child t (suc k) = slice_get (args_of t) k

abbrev head_layer : Node-F Node → Head
head_layer (Node-F.Var place v) = head.Var v
head_layer (Node-F.App place f args) = head.Sym f

-- what stands at the top: a variable or a symbol
abbrev pub head_of : TermTree → Head
head_of t = head_layer (out-Node t)

abbrev pub nodes_step : Node-F ℕ → ℕ
nodes_step (Node-F.Var place v) = 1
nodes_step (Node-F.App place f args) = 1 + sum args

-- the number of nodes
abbrev pub nodes : TermTree → ℕ
nodes = fold-Node ℕ nodes_step

-- the greatest of some numbers, 0 where there are none
abbrev pub greatest : List ℕ → ℕ
greatest [] = 0
greatest (n ∷ ns) = max n (greatest ns)

abbrev pub depth_step : Node-F ℕ → ℕ
depth_step (Node-F.Var place v) = 1
depth_step (Node-F.App place f args) = 1 + greatest args

-- the depth; a leaf has depth 1
abbrev pub depth_of : TermTree → ℕ
depth_of = fold-Node ℕ depth_step

-- the place that stands for none
abbrev pub nowhere : Place
nowhere = record { number = 0 }

-- a variable as a tree, and a symbol with its arguments
abbrev pub variable_tree : Var → TermTree
variable_tree v = node.Var nowhere v

abbrev pub application : SymId → List TermTree → TermTree
application f args = view.App nowhere f args

abbrev pub bare_step : Node-F Node → Node
bare_step (Node-F.Var place v) = variable_tree v
bare_step (Node-F.App place f args) = application f args

-- the tree with its places left out: two terms are the same tree where these are equal
abbrev pub bare : TermTree → TermTree
bare = fold-Node Node bare_step

abbrev sort_layer : SymbolTable → Node-F Node → Option Sort
sort_layer table (Node-F.Var place v) = Some v.sort
sort_layer table (Node-F.App place f args) = option_and_then (λ s. s.result) (symbol_at table f)

-- the sort of a term; none where its symbol isn't in the table or has no result
abbrev pub sort_of : SymbolTable → TermTree → Option Sort
sort_of table t = sort_layer table (out-Node t)

-- the symbol may be applied to the arguments: it is there, is no relation or order, and the arguments are of its sorts
pub record IsApplication (table : SymbolTable) (f : SymId) (args : List TermTree) : Type 0 where
  pub sym : Sym
  pub is : symbol_at table f ≡ Some sym
  pub no_relation : sym.kind ≢ kind.Rel
  pub no_order : sym.kind ≢ kind.Order
  pub sorts : map (sort_of table) args ≡ map Some sym.args
