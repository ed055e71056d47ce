-- For public contracts: what single statuses say of the files that a command reads.
use Rattle.std.specs.Prelude.{◌≡◌, ◌⊎◌, ℕ, List, Option, Some}
use Rattle.syn_outside.specs.Files.{File, IsAbsent}
use Rattle.syn_outside.specs.Faults.{Rose}
use Rattle.syn_app.specs.Trees.{TheoryTree, SpecTree, ProgramTree}
use Rattle.syn_app.specs.ProgramText.{printed_program}
use Rattle.syn_value.specs.declared.tree.ValueTree.{ValueTree}
use Rattle.syn_model.specs.Calls.{call_of}
use Rattle.syn_model.specs.Evaluation.{Counted}
use Rattle.syn_model.specs.Programs.{ProgramTree as FileProgram}
use Rattle.syn_model.specs.Theories.{TheoryTree as FileTheory}
use Rattle.syn_files.specs.ProgramLines.{IsProgramText}
use Rattle.syn_eval.specs.Ending.{IsSpent, IsWithin, meaning_of}
use Rattle.syn_app.specs.declared.command.Command.{Command}
use Rattle.syn_app.specs.declared.command.Command.TheVariants as command
use Rattle.syn_app.specs.declared.flat.Entry.{Entry}
use Rattle.syn_app.specs.declared.status.Which.{Which}
use Rattle.syn_app.specs.declared.status.Which.TheVariants as which
use Rattle.syn_lex.specs.TextLines.{IsFirstBad}
use Rattle.syn_app.specs.TheoryText.{ExtendsTheory, IsTheoryText, WholeTheory}
use Rattle.syn_app.specs.SpecText.{ExtendsSpec, IsSpecText, WholeSpec}
use Rattle.syn_app.specs.Checks.{IsProven}
use Rattle.syn_app.specs.Stages.{Has, IsShort, WhereTold}
use Rattle.syn_app.specs.Words.{Fits}
use Rattle.syn_app.specs.Bounds.{most_turns}
use Rattle.syn_app.specs.EvalWork.{AreValueTexts, IsBadPlace, IsBadProgramFile, IsBadTheoryFile, IsTheoryFile, printed_result}
use Rattle.syn_app.specs.Work.{IsBadFor, IsDerivationFor, file_name, value_words}

-- the words are those of a command of which, where files are told, P holds over them
abbrev pub OfCommand : List (List ℕ) → Option (List File) → (Command → List File → Type 0) → Type 0
OfCommand words files P = (c : Command) × Fits words c × WhereTold (P c) files

-- the file that the command reads so is there, and P holds of its bytes
abbrev pub HasFile : Which → (List ℕ → Type 0) → Command → List File → Type 0
HasFile w P c fs = (name : List ℕ) × (file_name c w ≡ Some name) × Has fs name P

-- the words are those of a command, and there is a cause for a fault of reading this file of it: the faults rose, or it isn't there
abbrev pub FaultOf : List (List ℕ) → Option (List File) → ℕ → ℕ → Which → Type 0
FaultOf words files before now w = (c : Command) × Fits words c × (Rose before now ⊎ ((name : List ℕ) × (file_name c w ≡ Some name) × IsAbsent files name))

-- the bytes are a text, short enough, of this theory, this specification, this derivation for the specification's input
abbrev pub ReadsTheory : TheoryTree → List ℕ → Type 0
ReadsTheory theory a = IsShort a × IsTheoryText a theory

abbrev pub ReadsSpec : SpecTree → List ℕ → Type 0
ReadsSpec spec b = IsShort b × IsSpecText b spec

abbrev pub ReadsDerivation : SpecTree → List Entry → List ℕ → Type 0
ReadsDerivation spec entries d = IsShort d × IsDerivationFor spec d entries

-- the bytes are short enough, and line k is the first that is bad: of a theory, of a specification, of a derivation for this one
abbrev pub IsBadTheory : ℕ → List ℕ → Type 0
IsBadTheory k a = IsShort a × IsFirstBad ExtendsTheory WholeTheory a k

abbrev pub IsBadSpec : ℕ → List ℕ → Type 0
IsBadSpec k b = IsShort b × IsFirstBad ExtendsSpec WholeSpec b k

abbrev pub IsBadDerivation : SpecTree → ℕ → List ℕ → Type 0
IsBadDerivation spec k d = IsShort d × IsBadFor spec d k

-- the bytes are short enough, and line k is the first that is bad in the grammar of theories that the command reads
abbrev pub IsBadTheoryFor : Command → ℕ → List ℕ → Type 0
IsBadTheoryFor (command.Check theory spec deriv) k a = IsBadTheory k a
IsBadTheoryFor (command.Eval theory program values) k a = IsShort a × IsBadTheoryFile a k

-- line k of the command's theory is the first bad one
abbrev pub HasBadTheory : ℕ → Command → List File → Type 0
HasBadTheory k c fs = HasFile which.Theory (IsBadTheoryFor c k) c fs

-- the command's theory is one, and line k of its specification is the first bad one
pub record HasBadSpec (k : ℕ) (c : Command) (fs : List File) : Type 0 where
  pub theory : TheoryTree
  pub theory_text : HasFile which.Theory (ReadsTheory theory) c fs
  pub bad : HasFile which.Spec (IsBadSpec k) c fs

-- its theory and its specification are ones, and line k of its derivation is the first bad one
pub record HasBadDerivation (k : ℕ) (c : Command) (fs : List File) : Type 0 where
  pub theory : TheoryTree
  pub spec : SpecTree
  pub theory_text : HasFile which.Theory (ReadsTheory theory) c fs
  pub spec_text : HasFile which.Spec (ReadsSpec spec) c fs
  pub bad : HasFile which.Derivation (IsBadDerivation spec k) c fs

-- its three files are texts of a theory, a specification and a derivation of which P holds
pub record OfTexts (P : TheoryTree → SpecTree → List Entry → Type 0) (c : Command) (fs : List File) : Type 0 where
  pub theory : TheoryTree
  pub spec : SpecTree
  pub entries : List Entry
  pub theory_text : HasFile which.Theory (ReadsTheory theory) c fs
  pub spec_text : HasFile which.Spec (ReadsSpec spec) c fs
  pub derivation_text : HasFile which.Derivation (ReadsDerivation spec entries) c fs
  pub holds : P theory spec entries

-- the derivation is accepted, its program is correct where the axioms hold, and P holds of its printed text
abbrev pub Writing : (List ℕ → Type 0) → TheoryTree → SpecTree → List Entry → Type 0
Writing P theory spec entries = (p : ProgramTree) × IsProven theory spec entries p × P (printed_program theory p)

-- the bytes are a text, short enough, of this theory, of this program over it, and line k of them is the first that is bad of a program
abbrev pub ReadsTheoryFile : FileTheory → List ℕ → Type 0
ReadsTheoryFile theory a = IsShort a × IsTheoryFile a theory

abbrev pub ReadsProgram : FileTheory → FileProgram → List ℕ → Type 0
ReadsProgram theory program b = IsShort b × IsProgramText theory.decls b program

abbrev pub IsBadProgram : FileTheory → ℕ → List ℕ → Type 0
IsBadProgram theory k b = IsShort b × IsBadProgramFile theory b k

-- the command's theory is one, and line k of its program is the first bad one
pub record HasBadProgram (k : ℕ) (c : Command) (fs : List File) : Type 0 where
  pub theory : FileTheory
  pub theory_text : HasFile which.Theory (ReadsTheoryFile theory) c fs
  pub bad : HasFile which.Program (IsBadProgram theory k) c fs

-- its two files are texts of a theory and a program of which, with the words of its values, P holds
pub record OfProgram (P : FileTheory → FileProgram → List (List ℕ) → Type 0) (c : Command) (fs : List File) : Type 0 where
  pub theory : FileTheory
  pub program : FileProgram
  pub theory_text : HasFile which.Theory (ReadsTheoryFile theory) c fs
  pub program_text : HasFile which.Program (ReadsProgram theory program) c fs
  pub holds : P theory program (value_words c)

-- word k is the first that is no value of its input's sort, or the first too many, or wanting
abbrev pub HasBadValue : ℕ → FileTheory → FileProgram → List (List ℕ) → Type 0
HasBadValue k theory program words = IsBadPlace program.table 1 program.head.inputs words k

-- the words are texts of values on which the program's call has no value within the turns, however deep calls may nest
abbrev pub RunsLong : FileTheory → FileProgram → List (List ℕ) → Type 0
RunsLong theory program words = (vs : List ValueTree) × AreValueTexts program.table program.head.inputs words vs × IsSpent (λ n. call_of (meaning_of theory.decls program) n vs) most_turns

-- they are texts of values on which it has this value in so many turns, and P holds of the text that tells both
abbrev pub Evaluating : (List ℕ → Type 0) → FileTheory → FileProgram → List (List ℕ) → Type 0
Evaluating P theory program words =
    (vs : List ValueTree) × AreValueTexts program.table program.head.inputs words vs × (c : Counted ValueTree) × IsWithin (λ n. call_of (meaning_of theory.decls program) n vs) most_turns c × P (printed_result c)

-- what the command writes, of which P holds: the program of an accepted derivation, or a value and its turns
abbrev pub Writes : (List ℕ → Type 0) → Command → List File → Type 0
Writes P (command.Check theory spec deriv) fs = OfTexts (Writing P) (command.Check theory spec deriv) fs
Writes P (command.Eval theory program values) fs = OfProgram (Evaluating P) (command.Eval theory program values) fs
