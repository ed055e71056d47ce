-- When no declared sort has a name, from the sort that is found.
use Rattle.std.proofs.Common.{◌≡◌, ◌≢◌, ◌↔◌, ℕ, Bool, true, false, not, IsTrue, List, Any, MatchOption, Option, None, Some, codes, slice_get, refl, sym, ◌∙◌, ap, true≢false}
use Rattle.std.specs.Option.{is_some, option_map}
use Rattle.std.proofs.lemmas.Option.{get_or_from_slice_get, slice_get-get_or, slice_get_within}
use Rattle.syn_term.specs.declared.sorts.NamedSort.{NamedSort}
use Rattle.syn_term.specs.declared.sorts.Sort.{Sort}
use Rattle.syn_term.specs.declared.sorts.Sort.TheVariants.{Nat, Named}
use Rattle.syn_term.specs.DeclaredSorts.{name_of_sort}
use Rattle.syn_term.specs.Names.{IsName}
use Rattle.syn_term.specs.Symbols.{SymbolTable}
use Rattle.syn_term.proofs.SortLemmas.{name_other}

has_name : (xs : List NamedSort) (k : ℕ) (n : List ℕ) (o : Option NamedSort) → slice_get xs k ≡ o → option_map (λ (s : NamedSort). s.name) o ≡ Some n → Any (λ (s : NamedSort). s.name ≡ n) xs
has_name xs k n None at e = absurd (cc)
has_name xs k n (Some s) at e = (k, s, slice_get_within xs k s at, get_or_from_slice_get xs k s s at, cc)

module _ (table : SymbolTable) (name : List ℕ) (named : IsName name) where
  abbrev HasSort : Type 0
  HasSort = Any (λ (s : NamedSort). s.name ≡ name) table.sorts

  -- the sort that has the name is a declared one
  declared : (a : Sort) → name_of_sort table a ≡ Some name → HasSort
  declared Nat e = let same : name ≡ codes "nat" = cc in absurd (name_other name named same)
  declared (Named k) e = has_name table.sorts k name (slice_get table.sorts k) refl e

  -- and a declared one that has it is a sort
  sort_of_declared : HasSort → (a : Sort) × (name_of_sort table a ≡ Some name)
  sort_of_declared h =
      let at : slice_get table.sorts h.0 ≡ Some h.1 = slice_get-get_or table.sorts h.0 h.1 h.2 ∙ ap Some h.3 in
      (Named h.0, ap (option_map (λ (s : NamedSort). s.name)) at ∙ ap Some h.4)

  -- none is found where no declared sort has the name
  pub no_sort_named : (o : Option Sort) (b : Bool) → is_some o ≡ not b → MatchOption o ((a : Sort) → name_of_sort table a ≢ Some name) (λ a. name_of_sort table a ≡ Some name) → IsTrue b ↔ (HasSort → ⊥)
  no_sort_named None true is h = ((λ e any. let p = sort_of_declared any in h p.0 p.1), (λ n. refl))
  no_sort_named None false is h = absurd (true≢false (sym is))
  no_sort_named (Some a) true is h = absurd (true≢false is)
  no_sort_named (Some a) false is h = ((λ e. absurd (true≢false (sym e))), (λ n. absurd (n (declared a h))))
