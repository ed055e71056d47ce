-- In public contracts: the table of symbols, and what it takes to add a symbol to it.
use Rattle.std.specs.Prelude.{◌≡◌, ◌⊎◌, ℕ, ◌<◌, List, [], ◌∷◌, ◌++◌, Option, Some, IsNone, IsSome, IfSome, All, Any, Contains, codes, length, map, slice_get}
use Rattle.syn_term.specs.declared.sorts.Kind.{Kind}
use Rattle.syn_term.specs.declared.sorts.Kind.TheVariants.{Zero, Succ, Nil, Cons, Tuple, Rel, Order, Input, Skolem}
use Rattle.syn_term.specs.declared.sorts.Sort.{Sort}
use Rattle.syn_term.specs.declared.sorts.Sort.TheVariants.{Nat, Named}
use Rattle.syn_term.specs.declared.sorts.Sym.{Sym}
use Rattle.syn_term.specs.declared.sorts.SymId.{SymId}
use Rattle.syn_term.specs.declared.sorts.NamedSort.{NamedSort}
use Rattle.syn_term.specs.Names.{IsName, IsSkolemName}

-- A table of symbols: the symbols in the order of their numbers, and the declared sorts in the order of theirs.
pub record SymbolTable : Type 0 where
  pub syms : List Sym
  pub sorts : List NamedSort

-- The zero of the natural numbers, written `0`.
abbrev pub zero_symbol : Sym
zero_symbol = record { name = codes "0"; kind = Zero; args = []; result = Some Nat }

-- The successor of a natural number, written `s`, as in `s(0)`.
abbrev pub succ_symbol : Sym
succ_symbol = record { name = codes "s"; kind = Succ; args = Nat ∷ []; result = Some Nat }

-- The table that every problem begins with: zero and successor, and no sort but the natural numbers.
abbrev pub first_symbols : SymbolTable
first_symbols = record { syms = zero_symbol ∷ succ_symbol ∷ []; sorts = [] }

-- The symbol with this number, counted from 0.
abbrev pub symbol_at : SymbolTable → SymId → Option Sym
symbol_at table id = slice_get table.syms id.0

-- The names of the symbols, in the order of their numbers.
abbrev pub names_of : SymbolTable → List (List ℕ)
names_of table = map (λ sym. sym.name) table.syms

-- A name is taken where a symbol or a declared sort has it.
abbrev pub IsTaken : SymbolTable → List ℕ → Type 0
IsTaken table name = Contains (names_of table) name ⊎ Any (λ sort. sort.name ≡ name) table.sorts

-- Where so many sorts are declared, a sort is there if it is the natural numbers or its number is below their count.
abbrev pub IsSortBelow : ℕ → Sort → Type 0
IsSortBelow count Nat = Unit {0}
IsSortBelow count (Named number) = number < count

-- The sort is one of the table's.
abbrev pub IsSort : SymbolTable → Sort → Type 0
IsSort table = IsSortBelow (length table.sorts)

-- A Skolem symbol has a name of their form, `!gap.1`, and every other symbol that is added has a name.
abbrev pub FitsName : Kind → List ℕ → Type 0
FitsName Skolem name = IsSkolemName name
FitsName _ name = IsName name

-- Zero and successor are there from the start, and the makers of lists and tuples come with their sorts alone.
abbrev pub IsAddable : Kind → Type 0
IsAddable Zero = ⊥
IsAddable Succ = ⊥
IsAddable Nil = ⊥
IsAddable Cons = ⊥
IsAddable Tuple = ⊥
IsAddable _ = Unit {0}

-- A relation and an order have no result, and every other symbol has one.
abbrev pub FitsResult : Kind → Option Sort → Type 0
FitsResult Rel result = IsNone result
FitsResult Order result = IsNone result
FitsResult _ result = IsSome result

-- A symbol is as its kind asks where the kind is one that is added, the name has the kind's form, an input takes no
-- arguments, and a result is there exactly where the kind has one.
pub record FitsKind (sym : Sym) : Type 0 where
  pub addable : IsAddable sym.kind
  pub named : FitsName sym.kind sym.name
  pub valued : FitsResult sym.kind sym.result
  pub input : sym.kind ≡ Input → sym.args ≡ []

-- A symbol may be added to a table where its name is free, the sorts of its arguments and its result are the table's, and
-- it is as its kind asks.
pub record MayAdd (table : SymbolTable) (sym : Sym) : Type 0 where
  pub free : ¬ (IsTaken table sym.name)
  pub args : All (IsSort table) sym.args
  pub result : IfSome sym.result (IsSort table)
  pub fitting : FitsKind sym

-- The table with one more symbol, which has the number that the symbols' count was.
abbrev pub with_symbol : SymbolTable → Sym → SymbolTable
with_symbol table sym = record { syms = table.syms ++ sym ∷ []; sorts = table.sorts }

-- No two symbols have one name.
abbrev pub HasDistinctNames : SymbolTable → Type 0
HasDistinctNames table = (i j : ℕ) (a b : Sym) → slice_get table.syms i ≡ Some a → slice_get table.syms j ≡ Some b → a.name ≡ b.name → i ≡ j

-- One table begins another where the other has its symbols and sorts first, under the same numbers, and maybe more.
pub record IsPrefix (a b : SymbolTable) : Type 0 where
  pub more_syms : List Sym
  pub more_sorts : List NamedSort
  pub syms : b.syms ≡ a.syms ++ more_syms
  pub sorts : b.sorts ≡ a.sorts ++ more_sorts
