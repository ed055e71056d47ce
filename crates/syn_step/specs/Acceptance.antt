-- For public contracts: which derivations are accepted, and their program.
use Rattle.std.specs.Prelude.{◌≡◌, ◌<◌, ◌-◌, ℕ, suc, List, Option, Some, IfSome, length, map, slice_get, take}
use Rattle.std.specs.Option.{option_map}
use Rattle.syn_row.specs.Rows.{AreVariants, RowTree, simplified_row}
use Rattle.syn_model.specs.Programs.{ProgramTree}
use Rattle.syn_start.specs.declared.steps.Step.{Step}
use Rattle.syn_start.specs.Derivations.{Lines}
use Rattle.syn_start.specs.Starts.{StartTree}
use Rattle.syn_extract.specs.Final.{IsFinal, program_of_row}
use Rattle.syn_step.specs.Steps.{StepGives}

-- A row of a derivation is judged after simplification: the simplified rows are what follows, what later positions speak of, and what
-- the program comes from.
abbrev pub judged : Lines → List RowTree
judged = map (λ l. simplified_row l.1)

-- Behind these lines, this one follows: its step gives a row of which its own, simplified, is a variant.
pub record Follows (x : StartTree) (before : Lines) (line : Step × RowTree) : Type 0 where
  pub row : RowTree
  pub gives : StepGives x (judged before) line.0 row
  pub variant : AreVariants (simplified_row line.1) row

-- each of the first n lines follows from those before it
abbrev pub FirstFollow : StartTree → Lines → ℕ → Type 0
FirstFollow x ls n = (i : ℕ) → i < n → IfSome (slice_get ls i) (Follows x (take i ls))

-- the last row, where there is one
abbrev pub last_of : List RowTree → Option RowTree
last_of rows = slice_get rows (length rows - 1)

pub record IsAccepted (x : StartTree) (ls : Lines) : Type 0 where
  pub follow : FirstFollow x ls (length ls)
  pub last : RowTree
  pub last_is : last_of (judged ls) ≡ Some last
  pub final : IsFinal x.spec last

-- the program of the last row, simplified
abbrev pub accepted_program : StartTree → Lines → Option ProgramTree
accepted_program x ls = option_map (program_of_row x.spec) (last_of (judged ls))

-- the line with the number k, counted from 1, is the first that doesn't follow
pub record IsFirstToFail (x : StartTree) (ls : Lines) (k : ℕ) : Type 0 where
  pub before : ℕ
  pub number : k ≡ suc before
  pub line : Step × RowTree
  pub there : slice_get ls before ≡ Some line
  pub earlier : FirstFollow x ls before
  pub fails : Follows x (take before ls) line → ⊥
