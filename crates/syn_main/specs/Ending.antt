-- For public contracts: what the process ends with. Its words are its arguments behind the first, which is the program's
-- name.
use Rattle.std.specs.Prelude.{◌≡◌, ◌⊎◌, ℕ, List, map, drop, String, string_bytes}
use Rattle.std.specs.declared.alloc.Global.{Global}
use Rattle.std.specs.declared.io.ErrorKind.{ErrorKind}
use Rattle.std.specs.declared.io.ErrorKind.TheVariants as kind
use Rattle.syn_app.specs.declared.status.Status.{Status}
use Rattle.syn_app.specs.declared.status.Status.TheVariants as status
use Rattle.syn_app.specs.Comes.{Comes, Scene, TellsPuts, TellsReads}

-- the words among the arguments
abbrev pub words_of : List (String Global) → List (List ℕ)
words_of args = map string_bytes (drop 1 args)

-- the status of arguments that could not be had: one was no text, or there was no memory
abbrev pub refusal : ErrorKind → Status
refusal kind.OutOfMemory = status.NoMemory
refusal _ = status.Words

-- nothing was read and nothing was put
pub record IsUntouched (s : Scene) : Type 0 where
  pub reads : s.reads_after ≡ s.reads
  pub text : s.text_after ≡ s.text
  pub faults : s.faults_after ≡ s.faults

-- the top call answers the words of the scene with the status
pub record IsAnswer (s : Scene) (e : Status) : Type 0 where
  pub comes : Comes s e
  pub tells_reads : TellsReads e s.reads s.reads_after
  pub tells_puts : TellsPuts e s.faults s.faults_after

-- what the words of the scene come to: the answer of the top call, unless there is no memory for a list of them
abbrev pub Reaches : Scene → Status → Type 0
Reaches s e = IsAnswer s e ⊎ ((e ≡ status.NoMemory) × IsUntouched s)
