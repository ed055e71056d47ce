-- For public contracts: values, and the sorts that they are of.
use Rattle.std.specs.Prelude.{List, [], ◌∷◌}
use Rattle.syn_term.specs.declared.sorts.Sort.{Sort}
use Rattle.syn_term.specs.declared.sorts.Sort.TheVariants as sort
use Rattle.syn_term.specs.Symbols.{SymbolTable}
use Rattle.syn_app.specs.declared.trees.Value.{Value}
use Rattle.syn_app.specs.declared.trees.Value.TheVariants.{Num}

-- the value is of the sort: a number is of `nat`, and nothing is of a declared sort yet
abbrev pub OfSort : SymbolTable → Value → Sort → Type 0
OfSort table (Num n) sort.Nat = Unit {0}
OfSort table (Num n) (sort.Named k) = ⊥

-- the values are of the sorts, one for one
abbrev pub OfSorts : SymbolTable → List Value → List Sort → Type 0
OfSorts table [] [] = Unit {0}
OfSorts table [] (s ∷ ss) = ⊥
OfSorts table (v ∷ vs) [] = ⊥
OfSorts table (v ∷ vs) (s ∷ ss) = OfSort table v s × OfSorts table vs ss
