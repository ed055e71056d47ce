-- For private contracts: a goal whose output entry is a variable.
use Rattle.std.specs.Prelude.{Some}
use Rattle.syn_term.specs.declared.sorts.Var.{Var}
use Rattle.syn_term.specs.Terms.{variable_tree}
use Rattle.syn_form.specs.declared.trees.Out.TheVariants as out
use Rattle.syn_form.specs.declared.trees.Side.TheVariants as side
use Rattle.syn_form.specs.Trees.{FormTree}
use Rattle.syn_row.specs.Rows.{RowTree}

abbrev pub goal_with : Var → FormTree → RowTree
goal_with v f = record { side = side.Goal; form = f; out = Some (out.Give (variable_tree v)) }
