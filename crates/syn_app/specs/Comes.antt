-- For public contracts: when each status of the top call comes, by the words and by the work of their command.
use Rattle.std.specs.Prelude.{◌≡◌, ◌⊎◌, ℕ, List, Option}
use Rattle.syn_outside.specs.Files.{File}
use Rattle.syn_outside.specs.Faults.{Rose}
use Rattle.syn_outside.specs.Texts.{Adds, AddsPrefix}
use Rattle.syn_app.specs.declared.command.Command.{Command}
use Rattle.syn_app.specs.declared.status.Status.{Status}
use Rattle.syn_app.specs.declared.status.Status.TheVariants as status
use Rattle.syn_app.specs.Stages.{AreTold, Stage, WhereTold}
use Rattle.syn_app.specs.Words.{Fits, FitsNone}
use Rattle.syn_app.specs.Work.{work}

-- what a call found and what it left: the words, the files, the faults of reading before and after, the sink's text
-- before and after, and its faults before and after
pub record Scene : Type 0 where
  pub words : List (List ℕ)
  pub files : Option (List File)
  pub reads : ℕ
  pub reads_after : ℕ
  pub text : Option (List ℕ)
  pub text_after : Option (List ℕ)
  pub faults : ℕ
  pub faults_after : ℕ

-- the stage ends with the status, the faults of reading counted before and after: a read failed by the outside's fault, of a file to whose
-- reading the stage comes; or the stage settles the status
abbrev pub Stops : {A : Type 0} → Stage A → Option (List File) → ℕ → ℕ → Status → Type 0
Stops stage files before now status.Done = ⊥
Stops stage files before now status.Words = ⊥
Stops stage files before now status.WriteFault = ⊥
Stops stage files before now status.NoMemory = Unit {0}
Stops stage files before now (status.ReadFault w) = (Rose before now × WhereTold (λ fs. stage.Reaches fs w) files) ⊎ AreTold (λ fs. stage.Settles fs (status.ReadFault w)) files
Stops stage files before now r = WhereTold (λ fs. stage.Settles fs r) files

-- where files are told, the command's work passes with a text of which P holds
abbrev pub PassesWith : (List ℕ → Type 0) → Command → Option (List File) → Type 0
PassesWith P c files = WhereTold (λ fs. (text : List ℕ) × (work c).Passes fs text × P text) files

-- when the status comes, for this command
abbrev pub ComesFor : Scene → Command → Status → Type 0
ComesFor s c status.Done = PassesWith (Adds s.text s.text_after) c s.files
ComesFor s c status.WriteFault = PassesWith (AddsPrefix s.text s.text_after) c s.files × Rose s.faults s.faults_after
ComesFor s c status.NoMemory = (s.text_after ≡ s.text) ⊎ PassesWith (AddsPrefix s.text s.text_after) c s.files
ComesFor s c r = Stops (work c) s.files s.reads s.reads_after r

-- when the status comes
abbrev pub Comes : Scene → Status → Type 0
Comes s r = (FitsNone s.words × (r ≡ status.Words)) ⊎ ((c : Command) × Fits s.words c × ComesFor s c r)

-- no fault is counted from before to now, and the counter doesn't stand at its last value
abbrev pub IsQuiet : ℕ → ℕ → Type 0
IsQuiet before now = ¬ (Rose before now)

-- a refusal before the write
abbrev pub IsRefusal : Status → Type 0
IsRefusal status.Done = ⊥
IsRefusal status.WriteFault = ⊥
IsRefusal status.NoMemory = ⊥
IsRefusal _ = Unit {0}

-- no read failed by the outside's fault, unless the status tells one
abbrev pub TellsReads : Status → ℕ → ℕ → Type 0
TellsReads (status.ReadFault w) before now = Unit {0}
TellsReads _ before now = now ≡ before

-- no put did, unless the status tells one
abbrev pub TellsPuts : Status → ℕ → ℕ → Type 0
TellsPuts status.WriteFault before now = Unit {0}
TellsPuts _ before now = now ≡ before
