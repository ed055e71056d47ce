-- Public. Which symbols take which terms, as truth values.
use Rattle.std.specs.Prelude.{Bool, true, false, not, ◌&&◌, List, [], ◌∷◌, Option, None, Some, nat_eq, map}
use Rattle.syn_term.specs.declared.sorts.Sort.{Sort}
use Rattle.syn_term.specs.declared.sorts.Sort.TheVariants as sort
use Rattle.syn_term.specs.declared.sorts.Sym.{Sym}
use Rattle.syn_term.specs.declared.sorts.SymId.{SymId}
use Rattle.syn_term.specs.declared.sorts.Kind.{Kind}
use Rattle.syn_term.specs.declared.sorts.Kind.TheVariants as kind
use Rattle.syn_term.specs.Symbols.{SymbolTable, symbol_at}
use Rattle.syn_term.specs.Terms.{TermTree, sort_of}

abbrev pub same_sort : Sort → Sort → Bool
same_sort sort.Nat sort.Nat = true
same_sort (sort.Named m) (sort.Named n) = nat_eq m n
same_sort _ _ = false

-- the sort of a term is this one
abbrev pub is_of_sort : Option Sort → Sort → Bool
is_of_sort None s = false
is_of_sort (Some r) s = same_sort r s

-- both terms have a sort, and it is one
abbrev pub are_of_one_sort : Option Sort → Option Sort → Bool
are_of_one_sort None r = false
are_of_one_sort (Some s) r = is_of_sort r s

-- the terms have these sorts, one for one
abbrev pub are_of_sorts : List (Option Sort) → List Sort → Bool
are_of_sorts [] [] = true
are_of_sorts (r ∷ rs) (s ∷ ss) = is_of_sort r s && are_of_sorts rs ss
are_of_sorts _ _ = false

-- relations and orders stand before the arguments of an atom, all other symbols in terms
abbrev pub is_relation : Kind → Bool
is_relation kind.Rel = true
is_relation kind.Order = true
is_relation _ = false

abbrev takes : SymbolTable → Option Sym → List TermTree → Bool
takes table None args = false
takes table (Some s) args = are_of_sorts (map (sort_of table) args) s.args

abbrev kind_is_relation : Option Sym → Bool
kind_is_relation None = false
kind_is_relation (Some s) = is_relation s.kind

-- the symbol makes a term of these arguments
abbrev pub makes_term : SymbolTable → SymId → List TermTree → Bool
makes_term table f args = not (kind_is_relation (symbol_at table f)) && takes table (symbol_at table f) args

-- the symbol makes an atom of these arguments
abbrev pub makes_atom : SymbolTable → SymId → List TermTree → Bool
makes_atom table r args = kind_is_relation (symbol_at table r) && takes table (symbol_at table r) args
