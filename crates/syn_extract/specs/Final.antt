-- For public contracts: final rows, and the program of a row.
use Rattle.std.specs.Prelude.{Option, None, Some, IfSome}
use Rattle.syn_term.specs.declared.term.Node.{Node, fold-Node}
use Rattle.syn_term.specs.declared.term.Node.TheOpen.{Node-F}
use Rattle.syn_term.specs.Symbols.{SymbolTable}
use Rattle.syn_term.specs.Terms.{TermTree, application}
use Rattle.syn_form.specs.declared.trees.Form.TheVariants as form
use Rattle.syn_form.specs.declared.trees.Out.{Out, fold-Out}
use Rattle.syn_form.specs.declared.trees.Out.TheOpen.{Out-F}
use Rattle.syn_form.specs.declared.trees.Out.TheVariants as out
use Rattle.syn_form.specs.declared.trees.Out.TheViews as out_view
use Rattle.syn_form.specs.declared.trees.Side.{Side}
use Rattle.syn_form.specs.declared.trees.Side.TheVariants as side
use Rattle.syn_form.specs.Inputs.{on_terms}
use Rattle.syn_form.specs.Trees.{FormTree, OutTree}
use Rattle.syn_row.specs.Rows.{RowTree}
use Rattle.syn_value.specs.Defaults.{default_term_tree}
use Rattle.syn_model.specs.Programs.{IsPrimitiveProgram, ProgramTree}
use Rattle.syn_model.specs.Specifications.{SpecTree}

-- the formula of a row that ends a derivation: the goal `true`, or the assertion `false`
pub data Ends : Side → FormTree → Type 0 where
  goal_true : Ends side.Goal form.True
  assertion_false : Ends side.Assertion form.False

-- A final row: its formula ends a derivation, and its output, where there is one, has symbols alone that a program for the
-- specification may have.
pub record IsFinal (s : SpecTree) (r : RowTree) : Type 0 where
  pub ends : Ends r.side r.form
  pub output : IfSome r.out (IsPrimitiveProgram s)

abbrev pub closed_step : SymbolTable → Node-F Node → Node
closed_step table (Node-F.Var place v) = default_term_tree table v.sort
closed_step table (Node-F.App place f args) = application f args

-- the term with each variable replaced by the default term of its sort, without places
abbrev pub closed_term : SymbolTable → TermTree → TermTree
closed_term table = fold-Node Node (closed_step table)

abbrev pub closed_out_step : SymbolTable → Out-F Out → Out
closed_out_step table (Out-F.Give t) = out.Give (closed_term table t)
closed_out_step table (Out-F.If f u v) = out_view.If (on_terms (closed_term table) f) u v

-- the same of each term of an output
abbrev pub closed_out : SymbolTable → OutTree → OutTree
closed_out table = fold-Out Out (closed_out_step table)

-- the body that comes of a row's output: where there is none, any value does, and it is the default term of the result's sort
abbrev pub body_of : SpecTree → Option OutTree → OutTree
body_of s None = out.Give (default_term_tree s.table s.head.result)
body_of s (Some o) = closed_out s.table o

-- the program of a row
abbrev pub program_of_row : SpecTree → RowTree → ProgramTree
program_of_row s r = record { head = s.head; table = s.table; body = body_of s r.out }
