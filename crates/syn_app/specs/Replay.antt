-- For public contracts: when a row of a derivation follows, when a derivation is accepted, and what its program is. A row is judged after
-- simplification: its simplified formula is what follows and what later rows build on.
use Rattle.std.specs.Prelude.{◌≡◌, ℕ, zero, suc, ◌+◌, ◌<◌, List, [], Option, None, Some, map, take, length, slice_get}
use Rattle.std.specs.Option.{option_map}
use Rattle.syn_term.specs.declared.sorts.Sort.{Sort}
use Rattle.syn_term.specs.declared.term.Node.{Node, fold-Node}
use Rattle.syn_term.specs.declared.term.Node.TheOpen.{Node-F}
use Rattle.syn_term.specs.Terms.{TermTree, variable_tree, application}
use Rattle.syn_app.specs.declared.trees.Form.TheVariants as form
use Rattle.syn_app.specs.declared.trees.Out.TheVariants as out
use Rattle.syn_app.specs.Trees.{OutTree, TheoryTree, SpecTree, ProgramTree, spec_symbols}
use Rattle.syn_app.specs.Primitive.{IsPrimitiveOut}
use Rattle.syn_app.specs.declared.flat.Row.{Row}
use Rattle.syn_app.specs.declared.flat.Step.{Step}
use Rattle.syn_app.specs.declared.flat.Step.TheVariants as step
use Rattle.syn_app.specs.declared.flat.Entry.{Entry}
use Rattle.syn_app.specs.Limits.{FitsRow, FitsStep}
use Rattle.syn_app.specs.Rows.{Substitution, IsMostGeneral, instance_of, AreVariants, simplified_row}
use Rattle.syn_app.specs.SpecText.{output_variable}
use Rattle.syn_app.specs.Terms.{zero_id}

-- the first goal: the output condition, with the output as a free variable, which is the output entry too
abbrev pub goal_row : SpecTree → Row
goal_row spec = simplified_row (record { form = spec.ensures_form; out = out.Give (variable_tree output_variable) })

-- the rule `goal`:                                  ------------------------
--                                                     goal ensures | output
-- it gives no row where that row passes the limit of a row
pub record GoalGives (spec : SpecTree) (row : Row) : Type 0 where
  pub fits : FitsRow (goal_row spec)
  pub variant : AreVariants (goal_row spec) row

-- the rule `reflex`, with a most general unifier of s and t:        goal s = t | u
--                                                             --------------------------
--                                                               goal s' = t' | u'    (which simplifies to `true`)
pub record ReflexGives (parent row : Row) : Type 0 where
  pub left : TermTree
  pub right : TermTree
  pub unifier : Substitution
  pub equality : parent.form ≡ form.Equal left right
  pub most_general : IsMostGeneral unifier left right
  pub weight : FitsStep (instance_of unifier parent)
  pub fits : FitsRow (simplified_row (instance_of unifier parent))
  pub variant : AreVariants (simplified_row (instance_of unifier parent)) row

-- the row with this number, from 1
abbrev pub row_at : List Row → ℕ → Option Row
row_at rows zero = None
row_at rows (suc k) = slice_get rows k

-- the row follows from the rows before it by the step; all rows are simplified
abbrev pub Follows : SpecTree → List Row → Step → Row → Type 0
Follows spec before step.Goal row = GoalGives spec row
Follows spec before (step.Reflex k) row = (parent : Row) × (row_at before k ≡ Some parent) × ReflexGives parent row

abbrev pub simplified_entry : Entry → Row
simplified_entry e = simplified_row e.row

abbrev pub simplified_rows : List Entry → List Row
simplified_rows entries = map simplified_entry entries

-- entry i, from 0, follows from those before it
abbrev pub FollowsAt : SpecTree → List Entry → ℕ → Type 0
FollowsAt spec entries i = (e : Entry) × (slice_get entries i ≡ Some e) × Follows spec (take i (simplified_rows entries)) e.step (simplified_row e.row)

-- a final row: the goal `true`, with an output of primitive symbols
pub record IsFinal (theory : TheoryTree) (spec : SpecTree) (row : Row) : Type 0 where
  pub goal : row.form ≡ form.True
  pub output : IsPrimitiveOut (spec_symbols theory spec) row.out

-- the last row, simplified
abbrev pub last_row : List Entry → Option Row
last_row entries = row_at (simplified_rows entries) (length entries)

-- a derivation is accepted where each row follows, and the last is final
pub record IsAccepted (theory : TheoryTree) (spec : SpecTree) (entries : List Entry) : Type 0 where
  pub follow : (i : ℕ) → i < length entries → FollowsAt spec entries i
  pub last : Row
  pub is_last : last_row entries ≡ Some last
  pub final : IsFinal theory spec last

-- the default term of a sort: 0 of `nat`
abbrev pub default_tree : Sort → TermTree
default_tree s = application zero_id []

abbrev pub closed_step : Node-F Node → Node
closed_step (Node-F.Var place v) = default_tree v.sort
closed_step (Node-F.App place f args) = application f args

-- each variable replaced by the default term of its sort
abbrev pub closed_term : TermTree → TermTree
closed_term = fold-Node Node closed_step

abbrev pub closed_out : OutTree → OutTree
closed_out (out.Give t) = out.Give (closed_term t)

-- the program of a final row
abbrev pub program_of_row : SpecTree → Row → ProgramTree
program_of_row spec row = record { name = spec.program; inputs = spec.inputs; result = spec.output.sort; body = closed_out row.out }

-- the program of a derivation: that of its last row
abbrev pub accepted_program : SpecTree → List Entry → Option ProgramTree
accepted_program spec entries = option_map (program_of_row spec) (last_row entries)

-- entry n, from 1, is the first that doesn't follow
pub record IsFirstToFail (spec : SpecTree) (entries : List Entry) (n : ℕ) : Type 0 where
  pub at : ℕ
  pub is : n ≡ at + 1
  pub within : at < length entries
  pub before : (i : ℕ) → i < at → FollowsAt spec entries i
  pub fails : ¬ (FollowsAt spec entries at)

-- each entry follows, and there is none, or the last row isn't final
pub record IsUnfinished (theory : TheoryTree) (spec : SpecTree) (entries : List Entry) : Type 0 where
  pub follow : (i : ℕ) → i < length entries → FollowsAt spec entries i
  pub unfinished : (row : Row) → last_row entries ≡ Some row → ¬ (IsFinal theory spec row)
