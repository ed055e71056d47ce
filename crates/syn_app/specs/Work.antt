-- For public contracts: the work of each command, a composition of stages that passes with the text that goes to the sink.
use Rattle.std.specs.Prelude.{◌≡◌, ◌⊎◌, ℕ, List, [], Option, None, Some}
use Rattle.syn_outside.specs.Files.{File}
use Rattle.syn_app.specs.Trees.{TheoryTree, SpecTree, ProgramTree}
use Rattle.syn_app.specs.ProgramText.{printed_program}
use Rattle.syn_app.specs.declared.command.Command.{Command}
use Rattle.syn_app.specs.declared.command.Command.TheVariants as command
use Rattle.syn_app.specs.declared.flat.Entry.{Entry}
use Rattle.syn_app.specs.declared.status.Status.{Status}
use Rattle.syn_app.specs.declared.status.Status.TheVariants as status
use Rattle.syn_app.specs.declared.status.Which.{Which}
use Rattle.syn_app.specs.declared.status.Which.TheVariants as which
use Rattle.syn_lex.specs.TextLines.{IsFirstBad}
use Rattle.syn_app.specs.TheoryText.{ExtendsTheory, IsTheoryText, WholeTheory}
use Rattle.syn_app.specs.SpecText.{ExtendsSpec, HasInput, IsSpecText, WholeSpec}
use Rattle.syn_app.specs.DerivationText.{ExtendsDerivation, IsDerivationText, WholeDerivation}
use Rattle.syn_app.specs.Replay.{IsFirstToFail, IsUnfinished}
use Rattle.syn_app.specs.Checks.{IsProven}
use Rattle.syn_app.specs.Stages.{Stage, behind, giving, reading}
use Rattle.syn_app.specs.EvalWork.{eval_work}

-- the name of the file that a command reads so, if it does
abbrev pub file_name : Command → Which → Option (List ℕ)
file_name (command.Check theory spec deriv) which.Theory = Some theory
file_name (command.Check theory spec deriv) which.Spec = Some spec
file_name (command.Check theory spec deriv) which.Derivation = Some deriv
file_name (command.Check theory spec deriv) which.Program = None
file_name (command.Eval theory program values) which.Theory = Some theory
file_name (command.Eval theory program values) which.Spec = None
file_name (command.Eval theory program values) which.Derivation = None
file_name (command.Eval theory program values) which.Program = Some program

-- the theory is read; the specification is
abbrev pub theory_stage : List ℕ → Stage TheoryTree
theory_stage name = reading which.Theory name (λ k. status.BadTheory k) (IsFirstBad ExtendsTheory WholeTheory) IsTheoryText

abbrev pub spec_stage : List ℕ → Stage SpecTree
spec_stage name = reading which.Spec name (λ k. status.BadSpec k) (IsFirstBad ExtendsSpec WholeSpec) IsSpecText

-- the text of a derivation for the specification's input, and the first bad line of one
abbrev pub IsDerivationFor : SpecTree → List ℕ → List Entry → Type 0
IsDerivationFor spec d entries = (input : List ℕ) × HasInput spec input × IsDerivationText input d entries

abbrev pub IsBadFor : SpecTree → List ℕ → ℕ → Type 0
IsBadFor spec d k = (input : List ℕ) × HasInput spec input × IsFirstBad (ExtendsDerivation input) WholeDerivation d k

-- the derivation is read
abbrev pub derivation_stage : SpecTree → List ℕ → Stage (List Entry)
derivation_stage spec name = reading which.Derivation name (λ k. status.BadDerivation k) (IsBadFor spec) (IsDerivationFor spec)

-- the rows are judged: row k is the first that doesn't follow; or all follow, and the last isn't final; or the derivation is accepted, with
-- its program
abbrev pub replay_stage : TheoryTree → SpecTree → List Entry → Stage ProgramTree
replay_stage theory spec entries = record {
  Settles = λ fs r. ((k : ℕ) × (r ≡ status.NotFollows k) × IsFirstToFail spec entries k) ⊎ ((r ≡ status.NotFinal) × IsUnfinished theory spec entries);
  Passes = λ fs p. IsProven theory spec entries p;
  Reaches = λ fs w. ⊥;
}

-- the derivation of this name, for a theory and a specification that were read; the specification and the derivation, for a theory that was
abbrev pub derivation_work : TheoryTree → SpecTree → List ℕ → Stage (List ℕ)
derivation_work theory spec name = behind (derivation_stage spec name) (λ entries. behind (replay_stage theory spec entries) (λ p. giving (printed_program theory p)))

abbrev pub spec_work : TheoryTree → List ℕ → List ℕ → Stage (List ℕ)
spec_work theory name deriv = behind (spec_stage name) (λ spec. derivation_work theory spec deriv)

-- the work of a command
abbrev pub work : Command → Stage (List ℕ)
work (command.Check theory spec deriv) = behind (theory_stage theory) (λ t. spec_work t spec deriv)
work (command.Eval theory program values) = eval_work theory program values

-- what the command asks for, over these files: a status that its work settles, or Done where it passes
abbrev pub Asks : Command → List File → Status → Type 0
Asks c fs r = (work c).Settles fs r ⊎ ((r ≡ status.Done) × ((text : List ℕ) × (work c).Passes fs text))

-- the words of the values that a command takes
abbrev pub value_words : Command → List (List ℕ)
value_words (command.Check theory spec deriv) = []
value_words (command.Eval theory program values) = values
