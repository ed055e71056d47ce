-- For private contracts: how the parts of a replay end.
use Rattle.std.specs.Prelude.{◌≡◌, List, Some}
use Rattle.syn_row.specs.Rows.{RowTree}
use Rattle.syn_model.specs.BareParts.{bare_program_tree}
use Rattle.syn_model.specs.Programs.{ProgramTree}
use Rattle.syn_model.specs.Specifications.{SpecTree}
use Rattle.syn_start.specs.Derivations.{Lines}
use Rattle.syn_start.specs.Starts.{StartTree}
use Rattle.syn_extract.specs.Final.{IsFinal, program_of_row}
use Rattle.syn_step.specs.Acceptance.{IsFirstToFail, last_of}
use Rattle.syn_replay.specs.declared.replaying.CheckError.{CheckError}
use Rattle.syn_replay.specs.declared.replaying.CheckError.TheVariants as error

-- why lines are refused one after another
abbrev pub FailsToFollow : StartTree → Lines → CheckError → Type 0
FailsToFollow x ls (error.NotFollows k) = IsFirstToFail x ls k
FailsToFollow x ls error.NotFinal = ⊥
FailsToFollow x ls error.NoMemory = Unit {0}

-- the row is final, and this is its program
pub record IsProgramOf (s : SpecTree) (r : RowTree) (p : ProgramTree) : Type 0 where
  pub final : IsFinal s r
  pub program : bare_program_tree p ≡ bare_program_tree (program_of_row s r)

-- why a row has no program
abbrev pub HasNoProgram : SpecTree → RowTree → CheckError → Type 0
HasNoProgram s r (error.NotFollows k) = ⊥
HasNoProgram s r error.NotFinal = IsFinal s r → ⊥
HasNoProgram s r error.NoMemory = Unit {0}

-- the last of the rows is final, and this is its program
pub record EndsIn (s : SpecTree) (rows : List RowTree) (p : ProgramTree) : Type 0 where
  pub last : RowTree
  pub last_is : last_of rows ≡ Some last
  pub program : IsProgramOf s last p

-- why the rows have no program
abbrev pub FailsToEnd : SpecTree → List RowTree → CheckError → Type 0
FailsToEnd s rows (error.NotFollows k) = ⊥
FailsToEnd s rows error.NotFinal = (r : RowTree) → last_of rows ≡ Some r → IsFinal s r → ⊥
FailsToEnd s rows error.NoMemory = Unit {0}
