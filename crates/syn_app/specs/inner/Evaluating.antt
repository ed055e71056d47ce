-- For private contracts: what each part of an evaluation answers.
use Rattle.std.specs.Prelude.{◌≡◌, ℕ, List, ◌++◌, Option}
use Rattle.syn_term.specs.Symbols.{SymbolTable}
use Rattle.syn_value.specs.declared.tree.ValueTree.{ValueTree}
use Rattle.syn_model.specs.BareParts.{bare_program_tree}
use Rattle.syn_model.specs.Calls.{call_of}
use Rattle.syn_model.specs.Evaluation.{Counted}
use Rattle.syn_model.specs.Heads.{Param}
use Rattle.syn_model.specs.Programs.{ProgramTree}
use Rattle.syn_model.specs.BareTrees.{bare_theory_tree}
use Rattle.syn_model.specs.Theories.{TheoryTree}
use Rattle.syn_files.specs.ProgramLines.{IsProgramText}
use Rattle.syn_eval.specs.Ending.{AllFit, IsSpent, IsWithin, meaning_of}
use Rattle.syn_app.specs.Bounds.{most_turns}
use Rattle.syn_app.specs.EvalWork.{AreValueTexts, IsBadPlace, IsBadProgramFile, IsBadTheoryFile, IsTheoryFile, printed_result}
use Rattle.syn_app.specs.declared.status.Status.{Status}
use Rattle.syn_app.specs.declared.status.Status.TheVariants as status

-- the bytes are a text of the theory that was read
abbrev pub IsTheoryRead : List ℕ → TheoryTree → Type 0
IsTheoryRead bytes t = IsTheoryFile bytes (bare_theory_tree t)

-- why the bytes are no text of a theory
abbrev pub TheoryFileFails : List ℕ → Status → Type 0
TheoryFileFails bytes (status.BadTheory k) = IsBadTheoryFile bytes k
TheoryFileFails bytes status.NoMemory = Unit {0}
TheoryFileFails bytes _ = ⊥

-- the bytes are a text of the program that was read, over the theory
abbrev pub IsProgramRead : TheoryTree → List ℕ → ProgramTree → Type 0
IsProgramRead t bytes p = IsProgramText (bare_theory_tree t).decls bytes (bare_program_tree p)

-- why the bytes are no text of a program over the theory
abbrev pub ProgramFails : TheoryTree → List ℕ → Status → Type 0
ProgramFails t bytes (status.BadProgram k) = IsBadProgramFile (bare_theory_tree t) bytes k
ProgramFails t bytes status.NoMemory = Unit {0}
ProgramFails t bytes _ = ⊥

-- behind the values that are there stand those of the words, and each may grow by the turns of an evaluation
pub record PutsValues (table : SymbolTable) (inputs : List Param) (words : List (List ℕ)) (before after : List ValueTree) : Type 0 where
  pub values : List ValueTree
  pub are : AreValueTexts table inputs words values
  pub fit : AllFit most_turns values
  pub is : after ≡ before ++ values

-- the first of the words, whose number is that of a value behind those that are there, or a later one is bad
abbrev pub ValuesFail : SymbolTable → List Param → List (List ℕ) → ℕ → Status → Type 0
ValuesFail table inputs words first (status.BadValue k) = IsBadPlace table first inputs words k
ValuesFail table inputs words first status.NoMemory = Unit {0}
ValuesFail table inputs words first _ = ⊥

-- the call of the program, without the places that its texts leave in it
abbrev pub calls_at : TheoryTree → ProgramTree → List ValueTree → ℕ → Option (Counted ValueTree)
calls_at t p vs n = call_of (meaning_of (bare_theory_tree t).decls (bare_program_tree p)) n vs

-- why the call has no value
abbrev pub CallFails : TheoryTree → ProgramTree → List ValueTree → Status → Type 0
CallFails t p vs status.TurnsSpent = IsSpent (calls_at t p vs) most_turns
CallFails t p vs status.NoMemory = Unit {0}
CallFails t p vs _ = ⊥

-- the text tells the value that the call has, and its turns
abbrev pub Tells : TheoryTree → ProgramTree → List ValueTree → List ℕ → Type 0
Tells t p vs text = (c : Counted ValueTree) × IsWithin (calls_at t p vs) most_turns c × (text ≡ printed_result c)
