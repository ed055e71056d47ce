-- In public contracts: values as trees, what they are made of, and which are of a sort.
use Rattle.std.specs.Prelude.{ℕ, ◌+◌, ◌^◌, ◌-◌, ◌≤◌, Bool, IsTrue, true, false, ◌&&◌, List, [], ◌∷◌, Option, Some, None, All, length, nat_eq, sum}
use Rattle.std.specs.List.{concat, list_all}
use Rattle.syn_term.specs.declared.sorts.Sort.{Sort}
use Rattle.syn_term.specs.declared.sorts.Shape.{Shape}
use Rattle.syn_term.specs.declared.sorts.Shape.TheVariants as shape
use Rattle.syn_term.specs.Symbols.{SymbolTable}
use Rattle.syn_term.specs.DeclaredSorts.{shape_of_sort}
use Rattle.syn_value.specs.declared.tree.ValueTree.{ValueTree, out-ValueTree, fold-ValueTree}
use Rattle.syn_value.specs.declared.tree.ValueTree.TheOpen.{ValueTree-F}

abbrev number_layer : ValueTree-F ValueTree → Option ℕ
number_layer (ValueTree-F.Num n) = Some n
number_layer _ = None

-- the number that the value is, where it is one
abbrev pub number_of : ValueTree → Option ℕ
number_of v = number_layer (out-ValueTree v)

abbrev list_layer : ValueTree-F ValueTree → Option (List ValueTree)
list_layer (ValueTree-F.List items) = Some items
list_layer _ = None

-- the items of the value, where it is a list
abbrev pub list_of : ValueTree → Option (List ValueTree)
list_of v = list_layer (out-ValueTree v)

abbrev tuple_layer : ValueTree-F ValueTree → Option (List ValueTree)
tuple_layer (ValueTree-F.Tuple parts) = Some parts
tuple_layer _ = None

-- the parts of the value, where it is a tuple
abbrev pub tuple_of : ValueTree → Option (List ValueTree)
tuple_of v = tuple_layer (out-ValueTree v)

-- the parts are of the sorts, one for one; of each part it is given which sorts it is of
abbrev pub parts_fit : List (Sort → Bool) → List Sort → Bool
parts_fit [] [] = true
parts_fit (part ∷ parts) (sort ∷ sorts) = part sort && parts_fit parts sorts
parts_fit _ _ = false

-- a number is of the natural numbers, a list of the sort of lists whose items its items are, and a tuple of the sort of
-- tuples whose parts its parts are
abbrev pub fits_shape : ValueTree-F (Sort → Bool) → Option Shape → Bool
fits_shape (ValueTree-F.Num n) (Some shape.Nat) = true
fits_shape (ValueTree-F.List items) (Some (shape.List nil cons item)) = list_all (λ fits. fits item) items
fits_shape (ValueTree-F.Tuple parts) (Some (shape.Tuple make sorts)) = parts_fit parts sorts
fits_shape _ _ = false

abbrev pub sort_step : SymbolTable → ValueTree-F (Sort → Bool) → Sort → Bool
sort_step table layer sort = fits_shape layer (shape_of_sort table sort)

-- whether the value is of the sort
abbrev pub is_of_sort : SymbolTable → ValueTree → Sort → Bool
is_of_sort table = fold-ValueTree (Sort → Bool) (sort_step table)

-- The value is of the sort: `[1,2]` is of the sort of lists of numbers. No value is of a sort that isn't there.
abbrev pub OfSort : SymbolTable → Sort → ValueTree → Type 0
OfSort table sort v = IsTrue (is_of_sort table v sort)

abbrev pub numbers_step : ValueTree-F (List ℕ) → List ℕ
numbers_step (ValueTree-F.Num n) = n ∷ []
numbers_step (ValueTree-F.List items) = concat items
numbers_step (ValueTree-F.Tuple parts) = concat parts

-- all numbers in the value, from left to right
abbrev pub numbers_in : ValueTree → List ℕ
numbers_in = fold-ValueTree (List ℕ) numbers_step

-- Each number in the value may grow by so many turns and is still a number of 64 bits.
abbrev pub FitsTurns : ValueTree → ℕ → Type 0
FitsTurns v turns = All (λ n. n + turns ≤ 2 ^ 64 - 1) (numbers_in v)

abbrev pub parts_step : ValueTree-F ℕ → ℕ
parts_step (ValueTree-F.Num n) = 0
parts_step (ValueTree-F.List items) = length items + sum items
parts_step (ValueTree-F.Tuple parts) = length parts + sum parts

-- how many list items and tuple parts the value has together, those inside others too: `[(1,2)]` has three
abbrev pub parts_in : ValueTree → ℕ
parts_in = fold-ValueTree ℕ parts_step

-- each of the first decides on one of the second, and all say yes
abbrev pub all_match : List (ValueTree → Bool) → List ValueTree → Bool
all_match [] [] = true
all_match (f ∷ fs) (v ∷ vs) = f v && all_match fs vs
all_match _ _ = false

abbrev pub same_layer : ValueTree-F (ValueTree → Bool) → ValueTree-F ValueTree → Bool
same_layer (ValueTree-F.Num n) (ValueTree-F.Num m) = nat_eq n m
same_layer (ValueTree-F.List fs) (ValueTree-F.List vs) = all_match fs vs
same_layer (ValueTree-F.Tuple fs) (ValueTree-F.Tuple vs) = all_match fs vs
same_layer _ _ = false

-- whether two values are one
abbrev pub same_value : ValueTree → ValueTree → Bool
same_value = fold-ValueTree (ValueTree → Bool) (λ layer w. same_layer layer (out-ValueTree w))
