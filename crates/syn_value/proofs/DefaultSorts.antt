-- The default value of a sort is of the sort.
use Rattle.std.proofs.Common.{◌≡◌, ◌≤◌, ◌<◌, ◌+◌, ℕ, zero, suc, Bool, true, false, ◌&&◌, IsTrue, List, [], ◌∷◌, Option, Some, None, All, map, refl, ap, ◌∙◌, arith}
use Rattle.std.proofs.lemmas.List.Elements.{All-head, All-tail}
use Rattle.syn_term.specs.declared.sorts.Sort.{Sort}
use Rattle.syn_term.specs.declared.sorts.Shape.{Shape}
use Rattle.syn_term.specs.declared.sorts.Shape.TheVariants as shape
use Rattle.syn_term.specs.Symbols.{SymbolTable, IsSort}
use Rattle.syn_term.specs.DeclaredSorts.{IsTable, shape_of_sort}
use Rattle.syn_value.specs.declared.tree.ValueTree.{ValueTree}
use Rattle.syn_value.specs.declared.tree.ValueTree.TheOpen.{ValueTree-F}
use Rattle.syn_value.specs.declared.tree.ValueTree.TheVariants as tree
use Rattle.syn_value.specs.declared.tree.ValueTree.TheViews as view
use Rattle.syn_value.specs.Defaults.{DefaultsFit, default_value, making_values}
use Rattle.syn_value.specs.Values.{OfSort, fits_shape, is_of_sort, parts_fit}
use Rattle.syn_value.proofs.DefaultLaws.{default_shape, has_shape, highest, parts_lower, parts_there, rank}
use Rattle.syn_value.proofs.SortCases.{of_List, of_Num, of_Tuple}

pub both_true : (a b : Bool) → IsTrue a → IsTrue b → IsTrue (a && b)
both_true true b h k = k
both_true false b h k = absurd (cc)

module _ (table : SymbolTable) (is : IsTable table) where
  abbrev Fit : Sort → Type 0
  Fit sort = OfSort table sort (default_value table sort)

  -- the parts' defaults fit, where those of all lower sorts do
  parts_are : (n : ℕ) (sorts : List Sort) → ((s : Sort) → rank s < n → IsSort table s → Fit s) → highest sorts < n → All (IsSort table) sorts → IsTrue (parts_fit (map (is_of_sort table) (map (default_value table) sorts)) sorts)
  parts_are n [] lower low there = refl
  parts_are n (s ∷ ss) lower low there =
      both_true (is_of_sort table (default_value table s) s) (parts_fit (map (is_of_sort table) (map (default_value table) ss)) ss)
      (lower s (omega arith) (All-head (IsSort table) s ss there))
      (parts_are n ss lower (omega arith) (All-tail (IsSort table) s ss there))

  by_shape : (n : ℕ) (sort : Sort) (o : Option Shape) → ((s : Sort) → rank s < n → IsSort table s → Fit s) → rank sort ≤ n → IsSort table sort → shape_of_sort table sort ≡ o → Fit sort
  by_shape n sort None lower low there e = absurd (has_shape table sort there e)
  by_shape n sort (Some shape.Nat) lower low there e =
      let d = default_shape making_values table sort shape.Nat is e in
      let t : is_of_sort table (tree.Num 0) sort ≡ true = of_Num table sort 0 ∙ ap (fits_shape (ValueTree-F.Num 0)) e in
      ap (λ (v : ValueTree). is_of_sort table v sort) d ∙ t
  by_shape n sort (Some (shape.List nil cons item)) lower low there e =
      let d = default_shape making_values table sort (shape.List nil cons item) is e in
      let t : is_of_sort table (view.List []) sort ≡ true = of_List table sort [] ∙ ap (fits_shape (ValueTree-F.List [])) e in
      ap (λ (v : ValueTree). is_of_sort table v sort) d ∙ t
  by_shape n sort (Some (shape.Tuple maker parts)) lower low there e =
      let d = default_shape making_values table sort (shape.Tuple maker parts) is e in
      let vs = map (default_value table) parts in
      let below : highest parts < rank sort = parts_lower table sort maker parts is e in
      let t : is_of_sort table (view.Tuple vs) sort ≡ true = of_Tuple table sort vs ∙ (ap (fits_shape (ValueTree-F.Tuple (map (is_of_sort table) vs))) e ∙ parts_are n parts lower (omega arith) (parts_there table sort maker parts is there e)) in
      ap (λ (v : ValueTree). is_of_sort table v sort) d ∙ t

  by_rank : (n : ℕ) (sort : Sort) → rank sort < n → IsSort table sort → Fit sort
  by_rank zero sort low there = absurd (omega arith)
  by_rank (suc n) sort low there = by_shape n sort (shape_of_sort table sort) (by_rank n) (omega arith) there refl

pub defaults_fit : DefaultsFit
defaults_fit table sort is there = by_rank table is (rank sort + 1) sort (omega arith) there
