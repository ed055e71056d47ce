-- Private: what the shape of a sort says of its values.
use Rattle.std.specs.Prelude.{Bool, true, false, List, Option, None, Some}
use Rattle.syn_term.specs.declared.sorts.Sort.{Sort}
use Rattle.syn_term.specs.declared.sorts.Shape.{Shape}
use Rattle.syn_term.specs.declared.sorts.Shape.TheVariants as shape

abbrev pub is_number_shape : Option Shape → Bool
is_number_shape (Some shape.Nat) = true
is_number_shape _ = false

-- the sort of the items, where the sort is one of lists
abbrev pub item_sort : Option Shape → Option Sort
item_sort (Some (shape.List nil cons item)) = Some item
item_sort _ = None

-- the sorts of the parts, where the sort is one of tuples
abbrev pub part_sorts : Option Shape → Option (List Sort)
part_sorts (Some (shape.Tuple make parts)) = Some parts
part_sorts _ = None
