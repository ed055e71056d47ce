-- For public contracts: the head of a program, `f(a: S, ..): S`, and the table of symbols over which its body and its conditions speak.
use Rattle.std.specs.Prelude.{◌≡◌, ℕ, ◌≤◌, List, [], ◌∷◌, ◌++◌, Some, String, All, fold, length, map, slice_get, string_bytes}
use Rattle.syn_term.specs.declared.sorts.Kind.TheVariants as kind
use Rattle.syn_term.specs.declared.sorts.Sort.{Sort}
use Rattle.syn_term.specs.declared.sorts.Sym.{Sym}
use Rattle.syn_term.specs.declared.sorts.SymId.{SymId}
use Rattle.syn_term.specs.Names.{IsName}
use Rattle.syn_term.specs.Symbols.{SymbolTable, IsSort, with_symbol}
use Rattle.syn_model.specs.declared.decl.Decl.{Decl}
use Rattle.syn_model.specs.Tables.{IsDeclared, table_of}
use Rattle.syn_model.specs.declared.heads.Head.{Head as GivenHead}
use Rattle.syn_model.specs.declared.heads.Param.{Param as GivenParam}

-- an input, with its name and its sort
abbrev pub Param : Type 0
Param = GivenParam

-- the name of a program, its inputs, and the sort of its result
abbrev pub HeadTree : Type 0
HeadTree = GivenHead

-- an input as it is handed in
abbrev pub given_name : {Z : Type 0} → String Z × Sort → List ℕ
given_name p = string_bytes p.0

abbrev pub given_sort : {Z : Type 0} → String Z × Sort → Sort
given_sort p = p.1

abbrev pub given_param : {Z : Type 0} → String Z × Sort → Param
given_param p = record { name = given_name p; sort = given_sort p }

-- the head of a program with this name, inputs as they are handed in, and this result
abbrev pub given_head : {Z : Type 0} → List ℕ → List (String Z × Sort) → Sort → HeadTree
given_head program inputs result = record { program = program; inputs = map given_param inputs; result = result }

abbrev pub sorts_of : List Param → List Sort
sorts_of = map (λ p. p.sort)

-- the program, as a symbol that takes the inputs
abbrev pub program_symbol : HeadTree → Sym
program_symbol h = record { name = h.program; kind = kind.Program; args = sorts_of h.inputs; result = Some h.result }

-- an input, as a symbol without arguments
abbrev pub input_symbol : Param → Sym
input_symbol p = record { name = p.name; kind = kind.Input; args = []; result = Some p.sort }

-- a table with the inputs behind its own symbols
abbrev pub with_inputs : SymbolTable → List Param → SymbolTable
with_inputs = fold (λ t p. with_symbol t (input_symbol p))

-- a table with the program's symbol and the inputs behind its own
abbrev pub with_head : SymbolTable → HeadTree → SymbolTable
with_head table h = with_inputs (with_symbol table (program_symbol h)) h.inputs

-- the program's symbol, behind those of the table
abbrev pub program_id : SymbolTable → SymId
program_id table = record { 0 = length table.syms }

-- no two of them are one
abbrev pub AreDistinct : List (List ℕ) → Type 0
AreDistinct names = (i j : ℕ) (x : List ℕ) → slice_get names i ≡ Some x → slice_get names j ≡ Some x → i ≡ j

-- a name that nothing declared has
abbrev pub IsNewName : List Decl → List ℕ → Type 0
IsNewName ds x = IsName x × (IsDeclared ds x → ⊥)

abbrev pub input_names : List Param → List (List ℕ)
input_names = map (λ p. p.name)

-- the names that a head brings, with more behind them
abbrev pub head_names : HeadTree → List (List ℕ) → List (List ℕ)
head_names h more = h.program ∷ (input_names h.inputs ++ more)

-- a head may stand behind these declarations: one to four inputs, new names that differ, those in `more` included, and sorts that
-- are there
pub record MayHead (ds : List Decl) (h : HeadTree) (more : List (List ℕ)) : Type 0 where
  pub few : (1 ≤ length h.inputs) × (length h.inputs ≤ 4)
  pub new : All (IsNewName ds) (head_names h more)
  pub distinct : AreDistinct (head_names h more)
  pub sorts : All (IsSort (table_of ds)) (h.result ∷ sorts_of h.inputs)
