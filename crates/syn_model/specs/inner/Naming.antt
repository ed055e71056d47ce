-- For private contracts: the one symbol that a name is the name of.
use Rattle.std.specs.Prelude.{◌≡◌, ℕ, List, Contains}
use Rattle.syn_term.specs.declared.sorts.Sym.{Sym}
use Rattle.syn_term.specs.Symbols.{SymbolTable}

pub record IsOnlyNamed (table : SymbolTable) (name : List ℕ) (s : Sym) : Type 0 where
  pub there : Contains table.syms s
  pub named : s.name ≡ name
  pub only : (t : Sym) → Contains table.syms t → t.name ≡ name → t ≡ s
