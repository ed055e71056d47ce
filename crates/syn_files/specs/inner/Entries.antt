-- For private contracts: names as they are lent to printers, and lines as they are put.
use Rattle.std.specs.Prelude.{◌≡◌, ℕ, ◌<◌, ◌^◌, List, [], ◌∷◌, ◌++◌, Option, All, IfSome, String, codes, map, string_bytes}
use Rattle.std.specs.List.{flat_map}
use Rattle.std.specs.Option.{option_and_then, option_map_or}
use Rattle.syn_term.specs.declared.sorts.Var.{Var}
use Rattle.syn_term.specs.declared.sorts.Sym.{Sym}
use Rattle.syn_term.specs.declared.sorts.SymId.{SymId}
use Rattle.syn_term.specs.Symbols.{SymbolTable, symbol_at}
use Rattle.syn_lex.specs.TextLines.{with_feed}
use Rattle.syn_model.specs.declared.decl.Decl.{Decl}
use Rattle.syn_model.specs.Tables.{IsDeclared, table_of}
use Rattle.syn_model.specs.Specifications.{SpecTree}
use Rattle.syn_model.specs.Theories.{TheoryTree}
use Rattle.syn_form.specs.Printing.{sort_text}
use Rattle.syn_files.specs.Printed.{IsMark, in_brackets_text, line_vars, named_by, named_text, own_after, parameter_text, printed_decl, symbol_text}

-- `x: S`
abbrev pub entry_text : {Z : Type 0} → SymbolTable → String Z × Var → List ℕ
entry_text table e = named_text table (record { text = string_bytes e.0; var = e.1 })

-- the name of the sort that a symbol gives
abbrev pub result_text : SymbolTable → Option Sym → List ℕ
result_text table f = option_map_or (sort_text table) (option_and_then (λ (g : Sym). g.result) f) []

-- an input, as `a: S`
abbrev pub input_text : SymbolTable → SymId → List ℕ
input_text table f = symbol_text table f ++ codes ": " ++ result_text table (symbol_at table f)

-- `program f(a: S, ..)`, by the numbers of the program and the inputs
abbrev pub called_text : SymbolTable → SymId → List SymId → List ℕ
called_text table program inputs = codes "program " ++ in_brackets_text (symbol_text table program) (map (input_text table) inputs)

-- the same of a specification
abbrev pub program_text : SpecTree → List ℕ
program_text s = codes "program " ++ in_brackets_text s.head.program (map (parameter_text s.table) s.head.inputs)

-- the numbers that are in a variable's name fit
abbrev pub IsSmall : Option ℕ → ℕ → Type 0
IsSmall mark n = (n < 2 ^ 32) × IfSome mark (λ j. j < 2 ^ 32)

-- a mark of these variables, by which their names have numbers that fit
abbrev pub IsSmallMark : List Decl → List Var → Option ℕ → Type 0
IsSmallMark all vars mark = IsMark (IsDeclared all) vars mark × All (λ v. IsSmall mark v.number) vars

-- the line of a declaration, whose variables have such names
abbrev pub IsNamedLine : List Decl → List ℕ → Decl → List ℕ → Type 0
IsNamedLine all own d line = (mark : Option ℕ) × IsSmallMark all (line_vars d) mark × (line ≡ printed_decl (table_of all) own (named_by mark (line_vars d)) d)

-- one such line for each of these declarations
abbrev pub NamedLines : List Decl → List ℕ → List Decl → List (List ℕ) → Type 0
NamedLines all own [] [] = Unit {0}
NamedLines all own [] (line ∷ lines) = ⊥
NamedLines all own (d ∷ ds) [] = ⊥
NamedLines all own (d ∷ ds) (line ∷ lines) = IsNamedLine all own d line × NamedLines all (own_after own d) ds lines

-- the line of the declaration was put behind the text
pub record PutsLine (all : List Decl) (own : List ℕ) (d : Decl) (old new : List ℕ) : Type 0 where
  pub line : List ℕ
  pub printed : IsNamedLine all own d line
  pub put : new ≡ old ++ with_feed line

-- a line for each of these declarations was put behind the text
pub record PutsLines (all ds : List Decl) (old new : List ℕ) : Type 0 where
  pub lines : List (List ℕ)
  pub printed : NamedLines all [] ds lines
  pub put : new ≡ old ++ flat_map with_feed lines

-- the text of the theory, with such lines
pub record IsNamedTheory (t : TheoryTree) (text : List ℕ) : Type 0 where
  pub lines : List (List ℕ)
  pub each : NamedLines t.decls [] t.decls lines
  pub is : text ≡ flat_map with_feed ((codes "theory " ++ t.name) ∷ lines)
