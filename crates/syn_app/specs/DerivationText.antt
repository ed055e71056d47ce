-- For public contracts: the text of a derivation: `derivation 1`, then lines `N RULE: goal FORM | TERM`, N counting from 1. RULE is `goal` or
-- `reflex K -`, FORM is `true` or `TERM = TERM`.
use Rattle.std.specs.Prelude.{◌≡◌, ℕ, ◌+◌, ◌<◌, ◌^◌, List, [], ◌∷◌, ◌++◌, codes, decimal, length, map}
use Rattle.syn_app.specs.declared.trees.Form.TheVariants as form
use Rattle.syn_app.specs.declared.trees.Out.TheVariants as out
use Rattle.syn_app.specs.Trees.{FormTree}
use Rattle.syn_app.specs.declared.flat.FlatForm.{FlatForm}
use Rattle.syn_app.specs.declared.flat.FlatForm.TheVariants as flat
use Rattle.syn_app.specs.declared.flat.Step.{Step}
use Rattle.syn_app.specs.declared.flat.Step.TheVariants as step
use Rattle.syn_app.specs.declared.flat.FlatRow.{FlatRow}
use Rattle.syn_app.specs.declared.flat.Row.{Row}
use Rattle.syn_app.specs.declared.flat.Entry.{Entry}
use Rattle.syn_lex.specs.TextLines.{IsCut}
use Rattle.syn_app.specs.Lines.{in_words}
use Rattle.syn_app.specs.Limits.{FitsForm, FitsTerm, FitsRow}
use Rattle.syn_app.specs.Terms.{term_text, term_tree, IsBase}

abbrev pub step_words : Step → List (List ℕ)
step_words step.Goal = codes "goal:" ∷ []
step_words (step.Reflex row) = codes "reflex" ∷ decimal row ∷ codes "-:" ∷ []

abbrev pub form_words : List ℕ → FlatForm → List (List ℕ)
form_words input flat.True = codes "true" ∷ []
form_words input (flat.Equal s t) = term_text input s ∷ codes "=" ∷ term_text input t ∷ []

-- the line of row n
abbrev pub row_line : List ℕ → ℕ → FlatRow → List ℕ
row_line input n r = in_words (decimal n ∷ step_words r.step ++ codes "goal" ∷ form_words input r.form ++ codes "|" ∷ term_text input r.out ∷ [])

abbrev pub form_tree : FlatForm → FormTree
form_tree flat.True = form.True
form_tree (flat.Equal s t) = form.Equal (term_tree s) (term_tree t)

-- the row that a line stands for, and the entry
abbrev pub row_tree : FlatRow → Row
row_tree r = record { form = form_tree r.form; out = out.Give (term_tree r.out) }

abbrev pub entry_of : FlatRow → Entry
entry_of r = record { step = r.step; row = row_tree r }

-- a row's number in a step has at most seven digits
abbrev pub IsStep : Step → Type 0
IsStep step.Goal = Unit {0}
IsStep (step.Reflex row) = row < 10 ^ 7

abbrev pub IsForm : FlatForm → Type 0
IsForm flat.True = Unit {0}
IsForm (flat.Equal s t) = IsBase s.base × IsBase t.base

-- a row that a line may say: each expression, and formula and output together, within the limits
pub record IsRow (r : FlatRow) : Type 0 where
  pub step : IsStep r.step
  pub form : IsForm r.form
  pub out : IsBase r.out.base
  pub fits_form : FitsForm (form_tree r.form)
  pub fits_out : FitsTerm (term_tree r.out)
  pub fits : FitsRow (row_tree r)

abbrev pub first_line : List ℕ
first_line = in_words (codes "derivation" ∷ codes "1" ∷ [])

-- which line extends which lines of a derivation, given the input's name
abbrev pub ExtendsDerivation : List ℕ → List (List ℕ) → List ℕ → Type 0
ExtendsDerivation input [] line = line ≡ first_line
ExtendsDerivation input (a ∷ before) line = (r : FlatRow) × IsRow r × (line ≡ row_line input (length before + 1) r)

-- the first line is there
abbrev pub WholeDerivation : List (List ℕ) → Type 0
WholeDerivation lines = 0 < length lines

-- the lines of the rows, numbered from n
abbrev pub row_lines : List ℕ → ℕ → List FlatRow → List (List ℕ)
row_lines input n [] = []
row_lines input n (r ∷ rs) = row_line input n r ∷ row_lines input (n + 1) rs

abbrev pub AreRows : List FlatRow → Type 0
AreRows [] = Unit {0}
AreRows (r ∷ rs) = IsRow r × AreRows rs

-- the bytes are the text of this derivation
pub record IsDerivationText (input : List ℕ) (bytes : List ℕ) (derivation : List Entry) : Type 0 where
  pub rows : List FlatRow
  pub cut : IsCut bytes (first_line ∷ row_lines input 1 rows) []
  pub are_rows : AreRows rows
  pub is : derivation ≡ map entry_of rows
