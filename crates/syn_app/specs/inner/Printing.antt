-- For private contracts: what the printer's cite beside the printed text: the program with one number as its input, and its symbols.
use Rattle.std.specs.Prelude.{ℕ, ◌+◌, List, [], ◌∷◌, ◌++◌, Option, None, Some, if◌then◌else◌, nat_lt}
use Rattle.syn_term.specs.declared.sorts.Sort.TheVariants as sort
use Rattle.syn_term.specs.declared.sorts.Sym.{Sym}
use Rattle.syn_term.specs.declared.sorts.Kind.TheVariants as kind
use Rattle.syn_term.specs.declared.term.Node.{fold-Node}
use Rattle.syn_term.specs.Symbols.{SymbolTable, first_symbols}
use Rattle.syn_term.specs.Terms.{TermTree, bare}
use Rattle.syn_app.specs.declared.trees.Out.TheVariants as out
use Rattle.syn_app.specs.Trees.{ProgramTree, input_symbol}
use Rattle.syn_app.specs.Bounds.{largest_numeral}
use Rattle.syn_app.specs.ProgramText.{Printed, print_step}
use Rattle.syn_app.specs.SpecText.{nat_declared}

-- the text of a term with the number that the text is, where it is one
abbrev pub printing_of : SymbolTable → TermTree → Printed
printing_of table = fold-Node Printed (print_step table)

-- the number after this one, where it is at most `largest_numeral`
abbrev pub next_number : Option ℕ → Option ℕ
next_number None = None
next_number (Some n) = if nat_lt n largest_numeral then Some (n + 1) else None

-- the program with this name and one input, a number, that gives the value of the body, a number too
abbrev pub nat_program : List ℕ → List ℕ → TermTree → ProgramTree
nat_program name input body = record {
  name = name;
  inputs = nat_declared input ∷ [];
  result = sort.Nat;
  body = out.Give (bare body);
}

-- the program symbol and the input of it
abbrev pub nat_program_symbol : List ℕ → Sym
nat_program_symbol name = record { name = name; kind = kind.Program; args = sort.Nat ∷ []; result = Some sort.Nat }

abbrev pub nat_input_symbol : List ℕ → Sym
nat_input_symbol name = input_symbol (nat_declared name)

-- its symbols: `0` and `s`, the program symbol, the input. A theory adds none yet
abbrev pub nat_program_symbols : List ℕ → List ℕ → SymbolTable
nat_program_symbols name input = record {
  syms = first_symbols.syms ++ nat_program_symbol name ∷ nat_input_symbol input ∷ [];
  sorts = first_symbols.sorts;
}

-- the name of a symbol, none where there is none
abbrev pub name_of : Option Sym → List ℕ
name_of None = []
name_of (Some s) = s.name
