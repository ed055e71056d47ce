-- For public contracts: the work of an evaluation. The theory is read by the whole grammar of theory files, then the program over it, then
-- the values of the inputs, and last comes the call of the program on them.
use Rattle.std.specs.Prelude.{◌≡◌, ◌⊎◌, ℕ, ◌+◌, List, [], ◌∷◌, ◌++◌, None, Some, codes, decimal}
use Rattle.syn_term.specs.Symbols.{SymbolTable}
use Rattle.syn_lex.specs.Stepping.{Ends, Extends, IsTextOf}
use Rattle.syn_lex.specs.TextLines.{IsFirstBad}
use Rattle.syn_value.specs.declared.tree.ValueTree.{ValueTree}
use Rattle.syn_value.specs.Texts.{IsValueText, value_text}
use Rattle.syn_model.specs.Calls.{call_of}
use Rattle.syn_model.specs.Evaluation.{Counted}
use Rattle.syn_model.specs.Heads.{Param}
use Rattle.syn_model.specs.Programs.{ProgramTree}
use Rattle.syn_model.specs.Theories.{TheoryTree}
use Rattle.syn_files.specs.ProgramLines.{IsProgramText, IsWholeProgram, ProgramLine, nothing}
use Rattle.syn_files.specs.TheoryLines.{IsWholeTheory, TheoryLine}
use Rattle.syn_eval.specs.Ending.{IsSpent, IsWithin, meaning_of}
use Rattle.syn_app.specs.Bounds.{most_turns}
use Rattle.syn_app.specs.declared.status.Status.TheVariants as status
use Rattle.syn_app.specs.declared.status.Which.TheVariants as which
use Rattle.syn_app.specs.Stages.{Stage, behind, giving, reading}

-- the bytes are a text of the theory, and line k of them is the first bad one
abbrev pub IsTheoryFile : List ℕ → TheoryTree → Type 0
IsTheoryFile bytes t = IsTextOf TheoryLine None IsWholeTheory bytes (Some t)

abbrev pub IsBadTheoryFile : List ℕ → ℕ → Type 0
IsBadTheoryFile = IsFirstBad (Extends TheoryLine None) (Ends TheoryLine None IsWholeTheory)

-- line k of the bytes is the first that is none of a program over the theory
abbrev pub IsBadProgramFile : TheoryTree → List ℕ → ℕ → Type 0
IsBadProgramFile t = IsFirstBad (Extends (ProgramLine t.decls) nothing) (Ends (ProgramLine t.decls) nothing IsWholeProgram)

-- the words are texts of these values, one for each input and of its sort
abbrev pub AreValueTexts : SymbolTable → List Param → List (List ℕ) → List ValueTree → Type 0
AreValueTexts table [] [] [] = Unit {0}
AreValueTexts table (p ∷ ps) (w ∷ ws) (v ∷ vs) = IsValueText table p.sort w v × AreValueTexts table ps ws vs
AreValueTexts table _ _ _ = ⊥

-- where the first of the words has the number `first`, number k is the first that is no value of its input's sort, or is one too many, or is
-- wanting
abbrev pub IsBadPlace : SymbolTable → ℕ → List Param → List (List ℕ) → ℕ → Type 0
IsBadPlace table first [] [] k = ⊥
IsBadPlace table first [] (w ∷ ws) k = k ≡ first
IsBadPlace table first (p ∷ ps) [] k = k ≡ first
IsBadPlace table first (p ∷ ps) (w ∷ ws) k =
    ((k ≡ first) × ((v : ValueTree) → ¬ (IsValueText table p.sort w v))) ⊎ ((v : ValueTree) × IsValueText table p.sort w v × IsBadPlace table (first + 1) ps ws k)

-- `value 6, turns 13` and a line feed
abbrev pub printed_result : Counted ValueTree → List ℕ
printed_result c = codes "value " ++ value_text c.result ++ codes ", turns " ++ decimal c.turns ++ codes "\n"

-- the theory is read; the program is
abbrev pub theory_file_stage : List ℕ → Stage TheoryTree
theory_file_stage name = reading which.Theory name (λ k. status.BadTheory k) IsBadTheoryFile IsTheoryFile

abbrev pub program_stage : TheoryTree → List ℕ → Stage ProgramTree
program_stage t name = reading which.Program name (λ k. status.BadProgram k) (IsBadProgramFile t) (IsProgramText t.decls)

-- the values are read
abbrev pub values_stage : ProgramTree → List (List ℕ) → Stage (List ValueTree)
values_stage p words = record {
  Settles = λ fs r. (k : ℕ) × (r ≡ status.BadValue k) × IsBadPlace p.table 1 p.head.inputs words k;
  Passes = λ fs vs. AreValueTexts p.table p.head.inputs words vs;
  Reaches = λ fs w. ⊥;
}

-- the program is called: within the turns it has a value for some bound on the nesting of calls, or it has none for any
abbrev pub call_stage : TheoryTree → ProgramTree → List ValueTree → Stage (Counted ValueTree)
call_stage t p vs = record {
  Settles = λ fs r. (r ≡ status.TurnsSpent) × IsSpent (λ n. call_of (meaning_of t.decls p) n vs) most_turns;
  Passes = λ fs c. IsWithin (λ n. call_of (meaning_of t.decls p) n vs) most_turns c;
  Reaches = λ fs w. ⊥;
}

-- the call on values that were read; the values and the call, for a program that was; the program, for a theory that was
abbrev pub call_work : TheoryTree → ProgramTree → List ValueTree → Stage (List ℕ)
call_work t p vs = behind (call_stage t p vs) (λ c. giving (printed_result c))

abbrev pub values_work : TheoryTree → ProgramTree → List (List ℕ) → Stage (List ℕ)
values_work t p words = behind (values_stage p words) (call_work t p)

abbrev pub program_work : TheoryTree → List ℕ → List (List ℕ) → Stage (List ℕ)
program_work t name words = behind (program_stage t name) (λ p. values_work t p words)

abbrev pub eval_work : List ℕ → List ℕ → List (List ℕ) → Stage (List ℕ)
eval_work theory program words = behind (theory_file_stage theory) (λ t. program_work t program words)
