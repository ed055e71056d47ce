-- For public contracts: theories, specifications and programs, as what texts stand for, with their tables of symbols.
use Rattle.std.specs.Prelude.{ℕ, ◌+◌, List, [], ◌∷◌, ◌++◌, Some, map, length}
use Rattle.syn_term.specs.declared.sorts.Sort.{Sort}
use Rattle.syn_term.specs.declared.sorts.Sym.{Sym}
use Rattle.syn_term.specs.declared.sorts.Kind.TheVariants as kind
use Rattle.syn_term.specs.Symbols.{SymbolTable, first_symbols}
use Rattle.syn_app.specs.declared.trees.Form.{Form}
use Rattle.syn_app.specs.declared.trees.Out.{Out}

abbrev pub FormTree : Type 0
FormTree = Form

abbrev pub OutTree : Type 0
OutTree = Out

-- a name with a sort, as an input or the output is declared
pub record Declared : Type 0 where
  pub name : List ℕ
  pub sort : Sort

-- a theory: its name. No declaration can be read yet
pub record TheoryTree : Type 0 where
  pub name : List ℕ

-- a specification: its name, its program with inputs and output, the input condition and the output condition, in
-- which the output is the variable with number 0
pub record SpecTree : Type 0 where
  pub name : List ℕ
  pub program : List ℕ
  pub inputs : List Declared
  pub output : Declared
  pub requires_form : FormTree
  pub ensures_form : FormTree

-- a program: its name, its inputs, the sort of its result, and its body over the inputs
pub record ProgramTree : Type 0 where
  pub name : List ℕ
  pub inputs : List Declared
  pub result : Sort
  pub body : OutTree

-- the symbols of a theory: `0` and `s`, then the declared ones
abbrev pub theory_symbols : TheoryTree → SymbolTable
theory_symbols theory = first_symbols

abbrev pub sort_declared : Declared → Sort
sort_declared d = d.sort

abbrev pub input_symbol : Declared → Sym
input_symbol d = record { name = d.name; kind = kind.Input; args = []; result = Some d.sort }

abbrev pub program_symbol : List ℕ → List Declared → Sort → Sym
program_symbol name inputs result = record { name = name; kind = kind.Program; args = map sort_declared inputs; result = Some result }

-- the theory's symbols, then the program symbol, then the inputs in their order
abbrev pub symbols_with : TheoryTree → List ℕ → List Declared → Sort → SymbolTable
symbols_with theory name inputs result = record {
  syms = (theory_symbols theory).syms ++ program_symbol name inputs result ∷ map input_symbol inputs;
  sorts = (theory_symbols theory).sorts;
}

abbrev pub spec_symbols : TheoryTree → SpecTree → SymbolTable
spec_symbols theory spec = symbols_with theory spec.program spec.inputs spec.output.sort

abbrev pub program_symbols : TheoryTree → ProgramTree → SymbolTable
program_symbols theory p = symbols_with theory p.name p.inputs p.result

-- the number of the first input among the symbols
abbrev pub first_input : TheoryTree → ℕ
first_input theory = length (theory_symbols theory).syms + 1
