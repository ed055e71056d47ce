-- For public contracts: what is answered by an evaluation that is given so many turns.
use Rattle.std.specs.Prelude.{◌≡◌, ℕ, ◌≤◌, ◌<◌, Bool, List, Option, None, Some, Result, Ok, Err, All, map}
use Rattle.syn_term.specs.Symbols.{SymbolTable}
use Rattle.syn_value.specs.declared.tree.ValueTree.{ValueTree}
use Rattle.syn_value.specs.Values.{FitsTurns}
use Rattle.syn_model.specs.declared.decl.Decl.{Decl}
use Rattle.syn_model.specs.BareParts.{bare_program_tree}
use Rattle.syn_model.specs.BareTrees.{bare_decl}
use Rattle.syn_model.specs.Calls.{Meaning, call_of}
use Rattle.syn_model.specs.Evaluation.{Counted}
use Rattle.syn_model.specs.Programs.{ProgramTree}
use Rattle.syn_eval.specs.declared.errors.EvalError.{EvalError}
use Rattle.syn_eval.specs.declared.errors.EvalError.TheVariants as error

-- what the symbols of a program's table mean by the declarations, and the program by its body
abbrev pub meaning_of : List Decl → ProgramTree → Meaning
meaning_of ds p = record { decls = ds; table = p.table; body = Some p.body }

-- what the symbols of a table mean by the declarations alone: no program is there
abbrev pub meaning_over : List Decl → SymbolTable → Meaning
meaning_over ds table = record { decls = ds; table = table; body = None }

-- The declarations and the program mean the same without the places of their terms: for each bound on the nesting the program's call
-- gives the same, in as many turns.
abbrev pub CallsSeeNoPlaces : List Decl → ProgramTree → Type 0
CallsSeeNoPlaces ds p = (n : ℕ) (values : List ValueTree) → call_of (meaning_of (map bare_decl ds) (bare_program_tree p)) n values ≡ call_of (meaning_of ds p) n values

-- for some bound on the nesting of calls it is this, and took no more than the turns
pub record IsWithin {A : Type 0} (at : ℕ → Option (Counted A)) (turns : ℕ) (c : Counted A) : Type 0 where
  pub nesting : ℕ
  pub is : at nesting ≡ Some c
  pub within : c.turns ≤ turns

-- whatever the bound on the nesting, what it is took more than the turns
abbrev pub IsSpent : {A : Type 0} → (ℕ → Option (Counted A)) → ℕ → Type 0
IsSpent {A} at turns = (n : ℕ) (c : Counted A) → at n ≡ Some c → turns < c.turns

-- a result with its turns
abbrev pub counted : {A : Type 0} → A × ℕ → Counted A
counted p = record { result = p.0; turns = p.1 }

-- The answer: a result with its turns, which is given for some bound on the nesting, or that none is given within the turns. Want
-- of memory is free.
abbrev pub Ends : {A : Type 0} → (ℕ → Option (Counted A)) → ℕ → Result (A × ℕ) EvalError → Type 0
Ends at turns (Ok p) = IsWithin at turns (counted p)
Ends at turns (Err error.TurnsSpent) = IsSpent at turns
Ends at turns (Err error.NoMemory) = Unit {0}

-- the same where the turns that were taken aren't told
abbrev pub Tells : (ℕ → Option (Counted Bool)) → ℕ → Result Bool EvalError → Type 0
Tells at turns (Ok b) = (took : ℕ) × IsWithin at turns (record { result = b; turns = took })
Tells at turns (Err error.TurnsSpent) = IsSpent at turns
Tells at turns (Err error.NoMemory) = Unit {0}

-- each number in the values may grow by so many turns
abbrev pub AllFit : ℕ → List ValueTree → Type 0
AllFit turns values = All (λ v. FitsTurns v turns) values
