-- For private contracts: how the table of a head is made, symbol by symbol, and the numbers of its inputs.
use Rattle.std.specs.Prelude.{◌≡◌, ◌≢◌, ℕ, List, [], ◌∷◌, ◌++◌, Some, String, All, map}
use Rattle.syn_term.specs.declared.sorts.Sort.{Sort}
use Rattle.syn_term.specs.declared.sorts.SymId.{SymId}
use Rattle.syn_term.specs.Symbols.{SymbolTable, MayAdd, symbol_at, with_symbol}
use Rattle.syn_model.specs.declared.decl.Decl.{Decl}
use Rattle.syn_model.specs.declared.head_table.HeadTable.{HeadTable}
use Rattle.syn_model.specs.Heads.{AreDistinct, HeadTree, IsNewName, Param, given_name, input_symbol, program_id, program_symbol, with_head}

-- the names of the program and the inputs are new, and differ
abbrev pub HasGivenNames : {Z : Type 0} → List Decl → List ℕ → List (String Z × Sort) → Type 0
HasGivenNames ds program inputs =
    (IsNewName ds program × All (λ p. IsNewName ds (given_name p)) inputs)
    × (All (λ p. given_name p ≢ program) inputs × AreDistinct (map given_name inputs))

-- the inputs may be added, each behind those before it
abbrev pub MayAddInputs : SymbolTable → List Param → Type 0
MayAddInputs table [] = Unit {0}
MayAddInputs table (p ∷ ps) = MayAdd table (input_symbol p) × MayAddInputs (with_symbol table (input_symbol p)) ps

-- the program may be added, and the inputs behind it
abbrev pub MayAddHead : SymbolTable → HeadTree → Type 0
MayAddHead table h = MayAdd table (program_symbol h) × MayAddInputs (with_symbol table (program_symbol h)) h.inputs

-- the numbers are those of the inputs, in order
abbrev pub AreIds : SymbolTable → List SymId → List Param → Type 0
AreIds table ids inputs = map (symbol_at table) ids ≡ map (λ p. Some (input_symbol p)) inputs

-- the symbol with this number is one more
abbrev pub IsPushed : List SymId → List SymId → ℕ → Type 0
IsPushed before after n = after ≡ before ++ record { 0 = n } ∷ []

-- the table of the head behind another
pub record IsHeadTable (table : SymbolTable) (h : HeadTree) (made : HeadTable) : Type 0 where
  pub syms : made.syms ≡ with_head table h
  pub program : made.program ≡ program_id table
  pub inputs : AreIds made.syms made.inputs h.inputs
