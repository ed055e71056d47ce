-- In public contracts: the default value and the default term of a sort.
use Rattle.std.specs.Prelude.{List, [], ◌∷◌, ◌++◌, fold, map, slice_get}
use Rattle.std.specs.Option.{unwrap_or}
use Rattle.syn_term.specs.declared.sorts.Sort.{Sort}
use Rattle.syn_term.specs.declared.sorts.Sort.TheVariants.{Nat, Named}
use Rattle.syn_term.specs.declared.sorts.Shape.{Shape}
use Rattle.syn_term.specs.declared.sorts.Shape.TheVariants as shape
use Rattle.syn_term.specs.declared.sorts.NamedSort.{NamedSort}
use Rattle.syn_term.specs.declared.sorts.SymId.{SymId}
use Rattle.syn_term.specs.Symbols.{SymbolTable, IsSort}
use Rattle.syn_term.specs.DeclaredSorts.{IsTable}
use Rattle.syn_term.specs.Terms.{TermTree, application}
use Rattle.syn_value.specs.declared.tree.ValueTree.{ValueTree}
use Rattle.syn_value.specs.declared.tree.ValueTree.TheVariants as tree
use Rattle.syn_value.specs.declared.tree.ValueTree.TheViews as view
use Rattle.syn_value.specs.Values.{OfSort}

-- How defaults are made: that of the natural numbers, that of a list sort with this empty list, and that of a tuple sort
-- with this maker from those of its parts.
pub record Making (A : Type 0) : Type 0 where
  pub number : A
  pub list : SymId → A
  pub tuple : SymId → List A → A

module _ {A : Type 0} (make : Making A) where
  -- the default of a sort, where those of the declared sorts are given
  abbrev pub default_in : List A → Sort → A
  default_in defaults Nat = make.number
  default_in defaults (Named number) = unwrap_or (slice_get defaults number) make.number

  -- the default of a sort of this shape
  abbrev pub default_of_shape : List A → Shape → A
  default_of_shape defaults shape.Nat = make.number
  default_of_shape defaults (shape.List nil cons item) = make.list nil
  default_of_shape defaults (shape.Tuple maker parts) = make.tuple maker (map (default_in defaults) parts)

  -- the defaults of the declared sorts, each from those of the sorts before it
  abbrev pub defaults_of : List NamedSort → List A
  defaults_of sorts = fold (λ defaults sort. defaults ++ default_of_shape defaults sort.shape ∷ []) [] sorts

  -- the default of one of the table's sorts
  abbrev pub default_by : SymbolTable → Sort → A
  default_by table = default_in (defaults_of table.sorts)

-- 0, the empty list, and the tuple of the parts
abbrev pub making_values : Making ValueTree
making_values = record { number = tree.Num 0; list = λ nil. view.List []; tuple = λ maker parts. view.Tuple parts }

-- The default value of a sort: 0 for the natural numbers, the empty list for a list sort, and for a tuple sort the tuple of
-- its parts' default values, as `(0,[])`.
abbrev pub default_value : SymbolTable → Sort → ValueTree
default_value = default_by making_values

-- the symbol `0`, which is the first of each table, the list sort's empty list, and the maker's application
abbrev pub making_terms : Making TermTree
making_terms = record { number = application (record { 0 = 0 }) []; list = λ nil. application nil []; tuple = application }

-- The default term of a sort, without places, whose value is the default value: as `pair(0, nil)`.
abbrev pub default_term_tree : SymbolTable → Sort → TermTree
default_term_tree = default_by making_terms

-- The default value of a sort that is there is of the sort.
abbrev pub DefaultsFit : Type 0
DefaultsFit = (table : SymbolTable) (sort : Sort) → IsTable table → IsSort table sort → OfSort table sort (default_value table sort)
