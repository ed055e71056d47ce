-- For public contracts: what the results of all rules have in common: the parents renamed apart, the weight of a step, how the parts
-- of the parents are joined, and the canonical row that is given. So it is after Manna and Waldinger (1980, 1992); the weight and
-- the guards are ours.
use Rattle.std.specs.Prelude.{◌≡◌, ℕ, ◌+◌, ◌≤◌, List, [], ◌∷◌, ◌++◌, Option, None, Some, All, Contains, map, sum}
use Rattle.syn_term.specs.declared.sorts.Var.{Var}
use Rattle.syn_form.specs.declared.trees.Form.TheViews as view
use Rattle.syn_form.specs.declared.trees.Out.TheViews as out_view
use Rattle.syn_form.specs.declared.trees.Side.{Side}
use Rattle.syn_form.specs.declared.trees.Side.TheVariants as side
use Rattle.syn_form.specs.Substitutions.{Substitution}
use Rattle.syn_form.specs.Trees.{FormTree, OutTree, form_depth, form_nodes, out_depth, out_nodes}
use Rattle.syn_row.specs.Rows.{IsRenaming, IsWithinRow, RowTree, bare_row, canonical_row, row_vars, simplified_row, substituted_row}

-- the two rows, each with its variables renamed, so that no number stands in both; they may be one row
pub record AreApart (r s first second : RowTree) : Type 0 where
  pub left : Substitution
  pub right : Substitution
  pub renames_left : IsRenaming (row_vars r) left
  pub renames_right : IsRenaming (row_vars s) right
  pub first_is : bare_row (substituted_row left r) ≡ bare_row first
  pub second_is : bare_row (substituted_row right s) ≡ bare_row second
  pub none_shared : (v w : Var) → Contains (row_vars first) v → Contains (row_vars second) w → v.number ≡ w.number → ⊥

-- the most nodes of a step, and the most depth of each of its parts
abbrev pub most_step_nodes : ℕ
most_step_nodes = 65536

abbrev pub most_step_depth : ℕ
most_step_depth = 2400

abbrev pub rows_nodes : List FormTree → List OutTree → ℕ
rows_nodes forms outs = sum (map form_nodes forms) + sum (map out_nodes outs)

-- What is weighed are the instances of the parents' formulas and outputs, before any part of them is replaced, and the guards, each
-- as it is made. A `not` before a guard is not weighed.
pub record IsLight (forms : List FormTree) (outs : List OutTree) (guards : List FormTree) : Type 0 where
  pub few : rows_nodes (forms ++ guards) outs ≤ most_step_nodes
  pub shallow : All (λ f. form_depth f ≤ most_step_depth) (forms ++ guards)
  pub shallow_outs : All (λ o. out_depth o ≤ most_step_depth) outs

-- What a rule makes before it is judged: the instances of the parents' formulas and outputs, the guards, and the row under the line.
pub record Figure : Type 0 where
  pub forms : List FormTree
  pub outs : List OutTree
  pub guards : List FormTree
  pub row : RowTree

-- The rule gives q: the step is light, the row is within the limit of a row once it is simplified, and q is its canonical row.
pub record Gives (x : Figure) (q : RowTree) : Type 0 where
  pub light : IsLight x.forms x.outs x.guards
  pub within : IsWithinRow (simplified_row x.row)
  pub is : bare_row q ≡ bare_row (canonical_row x.row)

-- an output that may be there, as a list of one or none
abbrev pub out_list : Option OutTree → List OutTree
out_list None = []
out_list (Some o) = o ∷ []

-- the other kind of row
abbrev pub other_side : Side → Side
other_side side.Goal = side.Assertion
other_side side.Assertion = side.Goal

-- the part of a goal is its formula, of an assertion the formula negated
abbrev pub part_of : Side → FormTree → FormTree
part_of side.Goal f = f
part_of side.Assertion f = view.Not f

-- one formula alone stays as it is
abbrev pub all_and : FormTree → List FormTree → FormTree
all_and f [] = f
all_and f (g ∷ gs) = view.And (f ∷ g ∷ gs)

abbrev pub all_or : FormTree → List FormTree → FormTree
all_or f [] = f
all_or f (g ∷ gs) = view.Or (f ∷ g ∷ gs)

-- of one parent: the goal `F and guards`, or the assertion `F or not guards`
abbrev pub guarded : Side → FormTree → List FormTree → FormTree
guarded side.Goal f guards = all_and f guards
guarded side.Assertion f guards = all_or f (map view.Not guards)

-- two assertions give an assertion, else a goal comes of it
abbrev pub joined_side : Side → Side → Side
joined_side side.Assertion side.Assertion = side.Assertion
joined_side s t = side.Goal

-- of two parents: the goal of both parts and the guards, or the assertion `F or G or not guards`
abbrev pub joined_form : Side → FormTree → Side → FormTree → List FormTree → FormTree
joined_form side.Assertion f side.Assertion g guards = view.Or (f ∷ g ∷ map view.Not guards)
joined_form s f t g guards = view.And (part_of s f ∷ part_of t g ∷ guards)

-- `if P then` the one output `else` the other, or the one that is there
abbrev pub chosen_out : FormTree → Option OutTree → Option OutTree → Option OutTree
chosen_out p (Some u) (Some v) = Some (out_view.If p u v)
chosen_out p (Some u) None = Some u
chosen_out p None o = o
