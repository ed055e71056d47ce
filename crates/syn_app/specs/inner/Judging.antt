-- For private contracts: what each part of a check answers.
use Rattle.std.specs.Prelude.{◌≡◌, ℕ, List, Option}
use Rattle.syn_outside.specs.Files.{File, Told}
use Rattle.syn_outside.specs.Faults.{HasCause, Rose}
use Rattle.syn_outside.specs.Texts.{Adds, AddsPrefix}
use Rattle.syn_app.specs.Trees.{TheoryTree, ProgramTree}
use Rattle.syn_app.specs.ProgramText.{printed_program}
use Rattle.syn_app.specs.declared.flat.Entry.{Entry}
use Rattle.syn_app.specs.declared.spec_text.FlatSpec.{FlatSpec}
use Rattle.syn_app.specs.declared.status.Status.{Status}
use Rattle.syn_app.specs.declared.status.Status.TheVariants as status
use Rattle.syn_app.specs.declared.status.Which.{Which}
use Rattle.syn_lex.specs.TextLines.{IsFirstBad}
use Rattle.syn_app.specs.TheoryText.{ExtendsTheory, IsTheoryText, WholeTheory}
use Rattle.syn_app.specs.SpecText.{ExtendsSpec, WholeSpec}
use Rattle.syn_app.specs.DerivationText.{ExtendsDerivation, IsDerivationText, WholeDerivation}
use Rattle.syn_app.specs.Replay.{IsFirstToFail, IsUnfinished}
use Rattle.syn_app.specs.Checks.{IsProven}
use Rattle.syn_app.specs.inner.Checks.{flat_names, flat_spec}
use Rattle.syn_app.specs.inner.Readers.{IsFlatSpec}
use Rattle.syn_app.specs.Stages.{IsLong, IsShort, Stage, WhereTold}

-- where files are told, the stage passes with this
abbrev pub Passed : {A : Type 0} → Stage A → Option (List File) → A → Type 0
Passed stage files a = WhereTold (λ fs. stage.Passes fs a) files

-- the bytes are the file's, where files are told, and they are short enough
abbrev pub IsLoaded : Option (List File) → List ℕ → List ℕ → Type 0
IsLoaded files name bytes = Told (λ b. (bytes ≡ b) × IsShort b) files name

-- why a file isn't loaded
abbrev pub LoadFails : Which → ℕ → ℕ → Option (List File) → List ℕ → Status → Type 0
LoadFails w before now files name (status.ReadFault u) = (u ≡ w) × HasCause before now files name
LoadFails w before now files name (status.TooLong u) = (u ≡ w) × Told IsLong files name
LoadFails w before now files name status.NoMemory = Unit {0}
LoadFails w before now files name _ = ⊥

-- the bytes are the text of some theory
abbrev pub IsTheory : List ℕ → Type 0
IsTheory bytes = (theory : TheoryTree) × IsTheoryText bytes theory

-- why the bytes are no text of a theory
abbrev pub TheoryFails : List ℕ → Status → Type 0
TheoryFails bytes (status.BadTheory k) = IsFirstBad ExtendsTheory WholeTheory bytes k
TheoryFails bytes status.NoMemory = Unit {0}
TheoryFails bytes _ = ⊥

-- the bytes are the text of the specification that was read
abbrev pub IsSpecRead : List ℕ → FlatSpec → Type 0
IsSpecRead bytes s = IsFlatSpec bytes s.name.now (flat_names s) s.term

abbrev pub SpecFails : List ℕ → Status → Type 0
SpecFails bytes (status.BadSpec k) = IsFirstBad ExtendsSpec WholeSpec bytes k
SpecFails bytes status.NoMemory = Unit {0}
SpecFails bytes _ = ⊥

-- the entries are accepted, and the text is their program's
abbrev pub PrintsEntries : FlatSpec → List Entry → List ℕ → Type 0
PrintsEntries s entries text = (theory : TheoryTree) → (p : ProgramTree) × (IsProven theory (flat_spec s) entries p × (text ≡ printed_program theory p))

-- why the entries give no program
abbrev pub EntriesFail : FlatSpec → List Entry → Status → Type 0
EntriesFail s entries (status.NotFollows k) = IsFirstToFail (flat_spec s) entries k
EntriesFail s entries status.NotFinal = (theory : TheoryTree) → IsUnfinished theory (flat_spec s) entries
EntriesFail s entries status.NoMemory = Unit {0}
EntriesFail s entries _ = ⊥

-- the bytes are the text of a derivation of which P holds
abbrev pub OfEntries : FlatSpec → (List Entry → Type 0) → List ℕ → Type 0
OfEntries s P bytes = (entries : List Entry) × (IsDerivationText s.input.now bytes entries × P entries)

-- the bytes are the text of an accepted derivation, and the text is its program's
abbrev pub Prints : FlatSpec → List ℕ → List ℕ → Type 0
Prints s bytes text = OfEntries s (λ entries. PrintsEntries s entries text) bytes

-- why the bytes give no program
abbrev pub DerivationFails : FlatSpec → List ℕ → Status → Type 0
DerivationFails s bytes (status.BadDerivation k) = IsFirstBad (ExtendsDerivation s.input.now) WholeDerivation bytes k
DerivationFails s bytes (status.NotFollows k) = OfEntries s (λ entries. IsFirstToFail (flat_spec s) entries k) bytes
DerivationFails s bytes status.NotFinal = OfEntries s (λ entries. (theory : TheoryTree) → IsUnfinished theory (flat_spec s) entries) bytes
DerivationFails s bytes status.NoMemory = Unit {0}
DerivationFails s bytes _ = ⊥

-- how the write ends
abbrev pub WriteEnds : Option (List ℕ) → Option (List ℕ) → ℕ → ℕ → List ℕ → Status → Type 0
WriteEnds old new before now text status.Done = Adds old new text
WriteEnds old new before now text status.WriteFault = AddsPrefix old new text × Rose before now
WriteEnds old new before now text status.NoMemory = AddsPrefix old new text
WriteEnds old new before now text _ = ⊥
