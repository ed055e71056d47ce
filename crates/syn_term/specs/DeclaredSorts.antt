-- In public contracts: the sorts of a table, their names, how their values are built, what it takes to declare one, and
-- what every table is.
use Rattle.std.specs.Prelude.{◌≡◌, ◌≢◌, ℕ, ◌+◌, ◌≤◌, List, [], ◌∷◌, ◌++◌, Option, Some, IfSome, All, Contains, codes, fold, if◌then◌else◌, length, map, position, slice_get}
use Rattle.std.specs.List.{sum_by}
use Rattle.std.specs.Option.{option_map, unwrap_or}
use Rattle.std.specs.Str.{bytes_eq}
use Rattle.syn_term.specs.declared.sorts.Sort.{Sort}
use Rattle.syn_term.specs.declared.sorts.Sort.TheVariants.{Nat, Named}
use Rattle.syn_term.specs.declared.sorts.Shape.{Shape}
use Rattle.syn_term.specs.declared.sorts.Shape.TheVariants as shape
use Rattle.syn_term.specs.declared.sorts.NamedSort.{NamedSort}
use Rattle.syn_term.specs.declared.sorts.Kind.{Kind}
use Rattle.syn_term.specs.declared.sorts.Kind.TheVariants.{Nil, Cons, Tuple}
use Rattle.syn_term.specs.declared.sorts.Sym.{Sym}
use Rattle.syn_term.specs.declared.sorts.SymId.{SymId}
use Rattle.syn_term.specs.Names.{IsName}
use Rattle.syn_term.specs.Symbols.{SymbolTable, FitsName, FitsResult, HasDistinctNames, IsSort, IsSortBelow, IsTaken, names_of, succ_symbol, symbol_at, with_symbol, zero_symbol}

-- The name of the sort: `nat` for the natural numbers, and for a declared sort its own; none where it isn't there.
abbrev pub name_of_sort : SymbolTable → Sort → Option (List ℕ)
name_of_sort table Nat = Some (codes "nat")
name_of_sort table (Named number) = option_map (λ sort. sort.name) (slice_get table.sorts number)

-- How the values of the sort are built; none where it isn't there.
abbrev pub shape_of_sort : SymbolTable → Sort → Option Shape
shape_of_sort table Nat = Some shape.Nat
shape_of_sort table (Named number) = option_map (λ sort. sort.shape) (slice_get table.sorts number)

-- The sort with the name: the natural numbers, or the first declared one that has it.
abbrev pub sort_named : SymbolTable → List ℕ → Option Sort
sort_named table name =
    if bytes_eq name (codes "nat") then Some Nat else option_map Named (position (bytes_eq name) (map (λ sort. sort.name) table.sorts))

-- No two sorts have one name, and no symbol has the name of a sort.
pub record HasDistinctSorts (table : SymbolTable) : Type 0 where
  pub sorts : (a b : Sort) (name : List ℕ) → name_of_sort table a ≡ Some name → name_of_sort table b ≡ Some name → a ≡ b
  pub symbols : (a : Sort) (name : List ℕ) → name_of_sort table a ≡ Some name → ¬ (Contains (names_of table) name)

-- The number of nodes of the default term of a sort, where those of the declared sorts are given: the default of the
-- natural numbers is `0`.
abbrev pub size_in : List ℕ → Sort → ℕ
size_in sizes Nat = 1
size_in sizes (Named number) = unwrap_or (slice_get sizes number) 0

-- The same for a sort of this shape: the default of a list sort is its empty list, and that of a tuple sort is the tuple of
-- the defaults of its parts.
abbrev pub shape_size : List ℕ → Shape → ℕ
shape_size sizes shape.Nat = 1
shape_size sizes (shape.List nil cons item) = 1
shape_size sizes (shape.Tuple make parts) = 1 + sum_by (size_in sizes) parts

-- The numbers of nodes of the declared sorts' default terms, each from those of the sorts before it.
abbrev pub default_sizes : List NamedSort → List ℕ
default_sizes sorts = fold (λ sizes sort. sizes ++ shape_size sizes sort.shape ∷ []) [] sorts

-- The number of nodes of the default term of one of the table's sorts.
abbrev pub default_size : SymbolTable → Sort → ℕ
default_size table = size_in (default_sizes table.sorts)

-- The sort that is declared next, and the symbol that is added so many after the next.
abbrev pub next_sort : SymbolTable → Sort
next_sort table = Named (length table.sorts)

abbrev pub next_symbol : SymbolTable → ℕ → SymId
next_symbol table k = record { 0 = length table.syms + k }

-- The table with one more declared sort.
abbrev pub with_sort : SymbolTable → NamedSort → SymbolTable
with_sort table sort = record { syms = table.syms; sorts = table.sorts ++ sort ∷ [] }

-- The sort of lists with these items, whose makers are the next two symbols.
abbrev pub list_sort : SymbolTable → List ℕ → Sort → NamedSort
list_sort table name item = record { name = name; shape = shape.List (next_symbol table 0) (next_symbol table 1) item }

-- The empty list of the next sort, and the symbol that puts an item before a list of it.
abbrev pub nil_symbol : SymbolTable → List ℕ → Sym
nil_symbol table nil = record { name = nil; kind = Nil; args = []; result = Some (next_sort table) }

abbrev pub cons_symbol : SymbolTable → List ℕ → Sort → Sym
cons_symbol table cons item = record { name = cons; kind = Cons; args = item ∷ next_sort table ∷ []; result = Some (next_sort table) }

-- The table after `name = nil | cons(item, name)`: with one sort more, and the symbols nil and cons after the others.
abbrev pub with_list : SymbolTable → List ℕ → List ℕ → List ℕ → Sort → SymbolTable
with_list table name nil cons item =
    with_symbol (with_symbol (with_sort table (list_sort table name item)) (nil_symbol table nil)) (cons_symbol table cons item)

-- A list sort may be declared where the three names are names that nothing has and that differ, and the sort of its items
-- is there.
pub record MayAddList (table : SymbolTable) (name nil cons : List ℕ) (item : Sort) : Type 0 where
  pub named : IsName name × IsName nil × IsName cons
  pub free : ¬ (IsTaken table name) × ¬ (IsTaken table nil) × ¬ (IsTaken table cons)
  pub distinct : (name ≢ nil) × (name ≢ cons) × (nil ≢ cons)
  pub there : IsSort table item

-- The sort of tuples with these parts, whose maker is the next symbol.
abbrev pub tuple_sort : SymbolTable → List ℕ → List Sort → NamedSort
tuple_sort table name parts = record { name = name; shape = shape.Tuple (next_symbol table 0) parts }

-- The symbol that makes a tuple of the next sort from its parts.
abbrev pub make_symbol : SymbolTable → List ℕ → List Sort → Sym
make_symbol table make parts = record { name = make; kind = Tuple; args = parts; result = Some (next_sort table) }

-- The table after `name = make(parts..)`: with one sort more, and the symbol make after the others.
abbrev pub with_tuple : SymbolTable → List ℕ → List ℕ → List Sort → SymbolTable
with_tuple table name make parts = with_symbol (with_sort table (tuple_sort table name parts)) (make_symbol table make parts)

-- A tuple sort may be declared where the two names are names that nothing has and that differ, the parts are two to four,
-- their sorts are there, and the default term of the new sort has at most 64 nodes.
pub record MayAddTuple (table : SymbolTable) (name make : List ℕ) (parts : List Sort) : Type 0 where
  pub named : IsName name × IsName make
  pub free : ¬ (IsTaken table name) × ¬ (IsTaken table make)
  pub distinct : name ≢ make
  pub there : All (IsSort table) parts
  pub few : (2 ≤ length parts) × (length parts ≤ 4)
  pub small : 1 + sum_by (default_size table) parts ≤ 64

-- The symbol with this number makes values of the sort: it is in the table, with this kind and these arguments.
pub record IsMaker (table : SymbolTable) (id : SymId) (kind : Kind) (args : List Sort) (sort : Sort) : Type 0 where
  pub name : List ℕ
  pub is : symbol_at table id ≡ Some (record { name = name; kind = kind; args = args; result = Some sort })

-- How the values of the sort with this number are built, from the sorts before it: a list sort has a symbol for the empty
-- list and one that puts an item before a list, and a tuple sort one that makes a tuple of two to four parts.
abbrev pub IsShapeAt : SymbolTable → ℕ → Shape → Type 0
IsShapeAt table number shape.Nat = ⊥
IsShapeAt table number (shape.List nil cons item) =
    IsSortBelow number item × IsMaker table nil Nil [] (Named number) × IsMaker table cons Cons (item ∷ Named number ∷ []) (Named number)
IsShapeAt table number (shape.Tuple make parts) =
    All (IsSortBelow number) parts × (2 ≤ length parts) × (length parts ≤ 4) × IsMaker table make Tuple parts (Named number)

-- What every table of symbols is. It begins with `0` and `s`, and the other symbols and the sorts have names, a Skolem
-- symbol one of its own form. A result is there exactly where a symbol's kind has one, and the sorts of arguments and
-- results are the table's. Each declared sort is built from sorts before it. No name is there twice.
pub record IsTable (table : SymbolTable) : Type 0 where
  pub others : List Sym
  pub begins : table.syms ≡ zero_symbol ∷ succ_symbol ∷ others
  pub named : All (λ sym. FitsName sym.kind sym.name) others
  pub named_sorts : All (λ sort. IsName sort.name) table.sorts
  pub valued : All (λ sym. FitsResult sym.kind sym.result) table.syms
  pub args : All (λ sym. All (IsSort table) sym.args) table.syms
  pub results : All (λ sym. IfSome sym.result (IsSort table)) table.syms
  pub shapes : (number : ℕ) (sort : NamedSort) → slice_get table.sorts number ≡ Some sort → IsShapeAt table number sort.shape
  pub symbols : HasDistinctNames table
  pub sorts : HasDistinctSorts table
