-- For private contracts: the rows that follow for a specification whose condition is `z = T`, with no variable in T: a variant of the goal, or
-- `true | T`. The check looks for these two shapes, and a law ties them to the rules.
use Rattle.std.specs.Prelude.{◌≡◌, ◌≢◌, ◌⊎◌, ℕ, ◌+◌, ◌<◌, List, [], Option, None, Some, take, length, slice_get}
use Rattle.syn_term.specs.declared.sorts.Sort.TheVariants as sort
use Rattle.syn_term.specs.declared.sorts.Sym.{Sym}
use Rattle.syn_term.specs.declared.sorts.SymId.{SymId}
use Rattle.syn_term.specs.declared.sorts.Kind.TheVariants as kinds
use Rattle.syn_term.specs.Symbols.{SymbolTable, symbol_at, zero_symbol, succ_symbol}
use Rattle.syn_term.specs.Terms.{TermTree, variable_tree}
use Rattle.syn_term.specs.Bank.{Kept, Agree, Belongs}
use Rattle.syn_app.specs.declared.trees.Form.TheVariants as form
use Rattle.syn_app.specs.declared.trees.Out.TheVariants as out
use Rattle.syn_app.specs.Trees.{FormTree, OutTree}
use Rattle.syn_app.specs.declared.flat.Row.{Row}
use Rattle.syn_app.specs.declared.flat.Step.{Step}
use Rattle.syn_app.specs.declared.flat.Step.TheVariants as step
use Rattle.syn_app.specs.declared.flat.Entry.{Entry}
use Rattle.syn_app.specs.declared.replay.CheckError.{CheckError}
use Rattle.syn_app.specs.declared.replay.CheckError.TheVariants as error
use Rattle.syn_app.specs.declared.flat.FlatRow.{FlatRow}
use Rattle.syn_app.specs.DerivationText.{row_tree}
use Rattle.syn_app.specs.Rows.{bare_row, simplified_row}
use Rattle.syn_app.specs.Replay.{row_at, simplified_rows}
use Rattle.syn_app.specs.Terms.{zero_id, succ_id, input_id}

-- the row variable with this number
abbrev pub row_variable : ℕ → TermTree
row_variable n = variable_tree (record { number = n; sort = sort.Nat })

-- `?n = T | ?n`, and `true | T`
abbrev pub open_goal : TermTree → ℕ → Row
open_goal t n = record { form = form.Equal (row_variable n) t; out = out.Give (row_variable n) }

abbrev pub solved_goal : TermTree → Row
solved_goal t = record { form = form.True; out = out.Give t }

abbrev pub IsOpen : TermTree → Row → Type 0
IsOpen t row = (n : ℕ) × (row ≡ open_goal t n)

-- one of the two
abbrev pub HasShape : TermTree → Row → Type 0
HasShape t row = IsOpen t row ⊎ (row ≡ solved_goal t)

-- what the steps give, in shapes
abbrev pub StepGives : TermTree → List Row → Step → Row → Type 0
StepGives t before step.Goal row = IsOpen t row
StepGives t before (step.Reflex k) row = ((n : ℕ) × (row_at before k ≡ Some (open_goal t n))) × (row ≡ solved_goal t)

-- the terms of a row belong to the bank
abbrev pub FormBelongs : Kept → FormTree → Type 0
FormBelongs b form.True = Unit {0}
FormBelongs b (form.Equal s t) = Belongs b s × Belongs b t

abbrev pub OutBelongs : Kept → OutTree → Type 0
OutBelongs b (out.Give t) = Belongs b t

abbrev pub RowBelongs : Kept → Row → Type 0
RowBelongs b row = FormBelongs b row.form × OutBelongs b row.out

-- the sides of an equality may be compared
abbrev pub SidesAgree : FormTree → Type 0
SidesAgree form.True = Unit {0}
SidesAgree (form.Equal s t) = Agree s t

-- the symbol has no arguments and the result `nat`, and may stand in a term
pub record IsLeaf (table : SymbolTable) (f : SymId) : Type 0 where
  pub sym : Sym
  pub is : symbol_at table f ≡ Some sym
  pub no_relation : sym.kind ≢ kinds.Rel
  pub no_order : sym.kind ≢ kinds.Order
  pub args : sym.args ≡ []
  pub result : sym.result ≡ Some sort.Nat

-- the table has `0`, `s` and the input where terms of texts have them
pub record HasTexts (table : SymbolTable) : Type 0 where
  pub zero : symbol_at table zero_id ≡ Some zero_symbol
  pub succ : symbol_at table succ_id ≡ Some succ_symbol
  pub input : IsLeaf table input_id

-- a row's terms may be compared with the target
abbrev pub FormAgrees : FormTree → TermTree → Type 0
FormAgrees form.True target = Unit {0}
FormAgrees (form.Equal s t) target = Agree t target

abbrev pub OutAgrees : OutTree → TermTree → Type 0
OutAgrees (out.Give t) target = Agree t target

abbrev pub RowAgrees : Row → TermTree → Type 0
RowAgrees row target = FormAgrees row.form target × OutAgrees row.out target

-- the row is there, and its formula is an equality
abbrev pub IsEquation : FormTree → Type 0
IsEquation form.True = ⊥
IsEquation (form.Equal s t) = Unit {0}

abbrev pub HasEquation : Option Row → Type 0
HasEquation None = ⊥
HasEquation (Some row) = IsEquation row.form

-- each row has one of the two shapes
abbrev pub HaveShape : TermTree → List Row → Type 0
HaveShape t rows = (k : ℕ) (row : Row) → row_at rows k ≡ Some row → HasShape t row

-- entry i, from 0, is what its step gives, in shapes
abbrev pub ShapedAt : TermTree → List Entry → ℕ → Type 0
ShapedAt t entries i = (e : Entry) × (slice_get entries i ≡ Some e) × StepGives t (take i (simplified_rows entries)) e.step (simplified_row e.row)

-- so are the first n entries
abbrev pub AreShaped : TermTree → List Entry → ℕ → Type 0
AreShaped t entries n = (i : ℕ) → i < n → ShapedAt t entries i

-- entry n, from 1, is the first that isn't
pub record IsFirstUnshaped (t : TermTree) (entries : List Entry) (n : ℕ) : Type 0 where
  pub at : ℕ
  pub is : n ≡ at + 1
  pub within : at < length entries
  pub before : AreShaped t entries at
  pub fails : ¬ (ShapedAt t entries at)

abbrev pub FirstUnshaped : TermTree → List Entry → CheckError → Type 0
FirstUnshaped t entries (error.NotFollows n) = IsFirstUnshaped t entries n
FirstUnshaped t entries error.NotFinal = ⊥
FirstUnshaped t entries error.NoMemory = Unit {0}

-- the row, simplified, where its step gives it from the rows before, and none where it doesn't
abbrev pub IsNextRow : TermTree → List Row → FlatRow → Option Row → Type 0
IsNextRow t before flat None = ¬ (StepGives t before flat.step (simplified_row (row_tree flat)))
IsNextRow t before flat (Some row) = StepGives t before flat.step (simplified_row (row_tree flat)) × (bare_row row ≡ simplified_row (row_tree flat))
