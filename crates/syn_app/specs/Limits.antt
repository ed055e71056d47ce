-- For public contracts: the limits on trees: an expression has at most 4,096 nodes and is at most 1,200 deep, and so is a row, whose formula
-- and output count together; the instances of a step have at most 65,536 nodes and are at most 2,400 deep.
use Rattle.std.specs.Prelude.{ℕ, ◌+◌, ◌≤◌, max}
use Rattle.syn_term.specs.Terms.{TermTree, nodes, depth_of}
use Rattle.syn_app.specs.Bounds.{most_levels, most_nodes, most_step_levels, most_step_nodes}
use Rattle.syn_app.specs.declared.trees.Form.TheVariants as form
use Rattle.syn_app.specs.declared.trees.Out.TheVariants as out
use Rattle.syn_app.specs.Trees.{FormTree, OutTree}
use Rattle.syn_app.specs.declared.flat.Row.{Row}

abbrev pub form_nodes : FormTree → ℕ
form_nodes form.True = 1
form_nodes (form.Equal s t) = 1 + (nodes s + nodes t)

abbrev pub form_depth : FormTree → ℕ
form_depth form.True = 1
form_depth (form.Equal s t) = 1 + max (depth_of s) (depth_of t)

abbrev pub out_nodes : OutTree → ℕ
out_nodes (out.Give t) = nodes t

abbrev pub out_depth : OutTree → ℕ
out_depth (out.Give t) = depth_of t

-- a formula, and a term, within the limit of an expression
abbrev pub FitsForm : FormTree → Type 0
FitsForm f = (form_nodes f ≤ most_nodes) × (form_depth f ≤ most_levels)

abbrev pub FitsTerm : TermTree → Type 0
FitsTerm t = (nodes t ≤ most_nodes) × (depth_of t ≤ most_levels)

-- the nodes of formula and output, added up, and the greater of their depths
abbrev pub row_nodes : Row → ℕ
row_nodes r = form_nodes r.form + out_nodes r.out

abbrev pub row_depth : Row → ℕ
row_depth r = max (form_depth r.form) (out_depth r.out)

-- within the limit of a row, and of a step
abbrev pub FitsRow : Row → Type 0
FitsRow r = (row_nodes r ≤ most_nodes) × (row_depth r ≤ most_levels)

abbrev pub FitsStep : Row → Type 0
FitsStep r = (row_nodes r ≤ most_step_nodes) × (row_depth r ≤ most_step_levels)
