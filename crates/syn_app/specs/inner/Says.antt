-- For private contracts: what each status says, with all clauses of the top call in one relation.
use Rattle.std.specs.Prelude.{◌≡◌, ◌⊎◌, List}
use Rattle.syn_outside.specs.Files.{File}
use Rattle.syn_outside.specs.Faults.{Rose}
use Rattle.syn_outside.specs.Texts.{Adds, AddsPrefix}
use Rattle.syn_app.specs.declared.command.Command.{Command}
use Rattle.syn_app.specs.declared.status.Status.{Status}
use Rattle.syn_app.specs.declared.status.Status.TheVariants as status
use Rattle.syn_app.specs.declared.status.Which.TheVariants as which
use Rattle.syn_app.specs.Comes.{Scene}
use Rattle.syn_app.specs.Refusals.{FaultOf, HasBadDerivation, HasBadProgram, HasBadSpec, HasBadTheory, HasBadValue, HasFile, OfCommand, OfProgram, OfTexts, RunsLong, Writes}
use Rattle.syn_app.specs.Replay.{IsFirstToFail, IsUnfinished}
use Rattle.syn_app.specs.Stages.{IsLong}
use Rattle.syn_app.specs.Words.{FitsNone}

-- a refusal that tells of a file's text, of the command and the told files
abbrev pub SaysOf : Status → Command → List File → Type 0
SaysOf (status.TooLong w) c fs = HasFile w IsLong c fs
SaysOf (status.BadTheory k) c fs = HasBadTheory k c fs
SaysOf (status.BadSpec k) c fs = HasBadSpec k c fs
SaysOf (status.BadDerivation k) c fs = HasBadDerivation k c fs
SaysOf (status.NotFollows k) c fs = OfTexts (λ theory spec entries. IsFirstToFail spec entries k) c fs
SaysOf status.NotFinal c fs = OfTexts IsUnfinished c fs
SaysOf (status.BadProgram k) c fs = HasBadProgram k c fs
SaysOf (status.BadValue k) c fs = OfProgram (HasBadValue k) c fs
SaysOf status.TurnsSpent c fs = OfProgram RunsLong c fs
SaysOf _ c fs = Unit {0}

abbrev pub Says : Scene → Status → Type 0
Says s status.Done = OfCommand s.words s.files (Writes (Adds s.text s.text_after))
Says s status.Words = FitsNone s.words
Says s (status.ReadFault w) = FaultOf s.words s.files s.reads s.reads_after w
Says s status.WriteFault = OfCommand s.words s.files (Writes (AddsPrefix s.text s.text_after)) × Rose s.faults s.faults_after
Says s status.NoMemory = (s.text_after ≡ s.text) ⊎ OfCommand s.words s.files (Writes (AddsPrefix s.text s.text_after))
Says s r = OfCommand s.words s.files (SaysOf r)
