-- Public. What a text may speak of.
use Rattle.std.specs.Prelude.{ℕ, Bool, List, ◌∷◌}
use Rattle.syn_term.specs.declared.sorts.Var.{Var}
use Rattle.syn_term.specs.Symbols.{SymbolTable}

-- the greatest number that stands for a term by itself, as so many times `s` over `0`
abbrev pub largest_numeral : ℕ
largest_numeral = 1000

-- a variable with the name that it is written with
pub record Named : Type 0 where
  pub text : List ℕ
  pub var : Var

-- the symbols and sorts; in files the variables by their names, the innermost first; in rows Skolem symbols and row variables
pub record TextScope : Type 0 where
  pub table : SymbolTable
  pub names : List Named
  pub rows : Bool

-- one more name in scope
abbrev pub with_name : TextScope → List ℕ → Var → TextScope
with_name scope x v = record { table = scope.table; names = record { text = x; var = v } ∷ scope.names; rows = scope.rows }
