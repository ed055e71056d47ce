-- A sort that has a shape is there.
use Rattle.std.proofs.Common.{◌≡◌, ◌<◌, ℕ, Option, Some, None, length, slice_get, refl, sym}
use Rattle.std.specs.Option.{option_map}
use Rattle.std.proofs.lemmas.Option.{slice_get_within}
use Rattle.syn_term.specs.declared.sorts.Sort.{Sort}
use Rattle.syn_term.specs.declared.sorts.Sort.TheVariants.{Nat, Named}
use Rattle.syn_term.specs.declared.sorts.Shape.{Shape}
use Rattle.syn_term.specs.declared.sorts.NamedSort.{NamedSort}
use Rattle.syn_term.specs.Symbols.{SymbolTable, IsSort}
use Rattle.syn_term.specs.DeclaredSorts.{shape_of_sort}

found : (table : SymbolTable) (n : ℕ) (f : Shape) (o : Option NamedSort) → slice_get table.sorts n ≡ o → Some f ≡ option_map (λ (s : NamedSort). s.shape) o → n < length table.sorts
found table n f None at e = absurd (cc)
found table n f (Some s) at e = slice_get_within table.sorts n s at

pub present : (table : SymbolTable) (sort : Sort) (f : Shape) → Some f ≡ shape_of_sort table sort → IsSort table sort
present table Nat f e = tt
present table (Named n) f e = found table n f (slice_get table.sorts n) refl e
