-- For private contracts: what the readers of texts answer.
use Rattle.std.specs.Prelude.{◌≡◌, ℕ, ◌+◌, ◌<◌, ◌≤◌, List, [], ◌∷◌, ◌++◌, codes, decimal, length}
use Rattle.syn_term.specs.Names.{IsName}
use Rattle.syn_lex.specs.declared.lines.FileError.{FileError}
use Rattle.syn_lex.specs.declared.lines.FileError.TheVariants as error
use Rattle.syn_app.specs.declared.flat.FlatTerm.{FlatTerm}
use Rattle.syn_app.specs.declared.flat.FlatForm.{FlatForm}
use Rattle.syn_app.specs.declared.flat.FlatForm.TheVariants as flat
use Rattle.syn_app.specs.declared.flat.FlatRow.{FlatRow}
use Rattle.syn_app.specs.declared.flat.Step.{Step}
use Rattle.syn_app.specs.declared.flat.Step.TheVariants as step
use Rattle.syn_app.specs.DerivationText.{AreRows, IsStep, first_line, row_lines}
use Rattle.syn_lex.specs.TextLines.{ExtendsAt, IsCut, IsFirstBad}
use Rattle.syn_app.specs.SpecText.{ProgramNames, AreProgramNames, IsCondition, spec_line, program_line, ensures_line}
use Rattle.syn_app.specs.Bounds.{most_nodes}
use Rattle.syn_app.specs.Terms.{IsBase, term_text}

-- The term is one that a text may have, with no more successors than an expression may have nodes.
abbrev pub IsTerm : FlatTerm → Type 0
IsTerm r = IsBase r.base × (r.successors ≤ most_nodes)

-- A file is refused at its first bad line, or for want of memory.
abbrev pub Refuses : (List (List ℕ) → List ℕ → Type 0) → (List (List ℕ) → Type 0) → List ℕ → FileError → Type 0
Refuses Extends Whole bytes (error.Bad n) = IsFirstBad Extends Whole bytes n
Refuses Extends Whole bytes error.NoMemory = Unit {0}

-- The bytes are the three lines of a specification with this name, these names of its program line, and this term.
pub record IsFlatSpec (bytes name : List ℕ) (names : ProgramNames) (term : FlatTerm) : Type 0 where
  pub cut : IsCut bytes (spec_line name ∷ program_line names ∷ ensures_line names term ∷ []) []
  pub is_name : IsName name
  pub are_names : AreProgramNames names
  pub condition : IsCondition term

-- The words of a step and the word `goal` after them, and then what follows.
abbrev pub with_step : Step → List ℕ → List ℕ
with_step step.Goal rest = codes "goal: goal " ++ rest
with_step (step.Reflex row) rest = codes "reflex " ++ (decimal row ++ 32 ∷ (codes "-: goal " ++ rest))

-- The words of a formula and the bar after them, and then what follows.
abbrev pub with_form : List ℕ → FlatForm → List ℕ → List ℕ
with_form input flat.True rest = codes "true | " ++ rest
with_form input (flat.Equal s t) rest = term_text input s ++ 32 ∷ (codes "= " ++ (term_text input t ++ 32 ∷ (codes "| " ++ rest)))

-- The line of a row, without its number.
abbrev pub row_text : List ℕ → FlatRow → List ℕ
row_text input r = with_step r.step (with_form input r.form (term_text input r.out))

-- The terms of a formula are ones that a text may have.
abbrev pub HasTerms : FlatForm → Type 0
HasTerms flat.True = Unit {0}
HasTerms (flat.Equal s t) = IsTerm s × IsTerm t

-- The parts of a row are ones that a text may have, whether or not they are within the limits of a row.
pub record HasParts (r : FlatRow) : Type 0 where
  pub step : IsStep r.step
  pub form : HasTerms r.form
  pub out : IsTerm r.out

-- Line n, from 1, is the first among these that doesn't extend those before it.
pub record IsFirstBadLine (Extends : List (List ℕ) → List ℕ → Type 0) (lines : List (List ℕ)) (n : ℕ) : Type 0 where
  pub at : ℕ
  pub is : n ≡ at + 1
  pub within : at < length lines
  pub before : (i : ℕ) → i < at → ExtendsAt Extends lines i
  pub bad : ¬ (ExtendsAt Extends lines at)

-- A list of lines is refused at its first bad line, or for want of memory.
abbrev pub RefusesLines : (List (List ℕ) → List ℕ → Type 0) → List (List ℕ) → FileError → Type 0
RefusesLines Extends lines (error.Bad n) = IsFirstBadLine Extends lines n
RefusesLines Extends lines error.NoMemory = Unit {0}

-- The bytes are the first line of a derivation and then the lines of these rows, numbered from 1.
pub record IsFlatDerivation (input bytes : List ℕ) (rows : List FlatRow) : Type 0 where
  pub cut : IsCut bytes (first_line ∷ row_lines input 1 rows) []
  pub are_rows : AreRows rows
