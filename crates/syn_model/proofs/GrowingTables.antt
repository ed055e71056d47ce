-- The table of a theory is well formed; it begins the table of each theory with more declarations, where values are of the sorts that
-- they were of.
use Rattle.std.proofs.Common.{◌≡◌, Bool, ◌&&◌, List, [], ◌∷◌, ◌++◌, All, Option, Some, None, fold, get_or, length, map, slice_get, refl, sym, ap, ap₂, subst, ◌∙◌, arith}
use Rattle.std.specs.List.{list_all}
use Rattle.std.specs.Option.{option_map}
use Rattle.std.proofs.lemmas.List.Elements.{All-head, All-tail}
use Rattle.std.proofs.lemmas.List.Sums.{fold-append}
use Rattle.std.proofs.lemmas.Option.{slice_get-get_or, slice_get_within}
use Rattle.syn_term.specs.declared.sorts.NamedSort.{NamedSort}
use Rattle.syn_term.specs.declared.sorts.Shape.{Shape}
use Rattle.syn_term.specs.declared.sorts.Shape.TheVariants as shape
use Rattle.syn_term.specs.declared.sorts.Sort.{Sort}
use Rattle.syn_term.specs.declared.sorts.Sort.TheVariants as sort
use Rattle.syn_term.specs.declared.sorts.SymId.{SymId}
use Rattle.syn_term.specs.DeclaredSorts.{IsShapeAt, IsTable, shape_of_sort}
use Rattle.syn_term.specs.Symbols.{IsPrefix, IsSort, SymbolTable, first_symbols}
use Rattle.syn_term.proofs.SymbolLaws.{IsPrefix-refl, IsPrefix-trans, IsPrefix-with_list, IsPrefix-with_symbol, IsPrefix-with_tuple, below_more, slice_get-append}
use Rattle.syn_term.proofs.TableLaws.{table_added, table_first, table_list, table_tuple}
use Rattle.syn_value.specs.declared.tree.ValueTree.{ValueTree}
use Rattle.syn_value.specs.declared.tree.ValueTree.TheOpen.{ValueTree-F}
use Rattle.syn_value.specs.Values.{OfSort, fits_shape, is_of_sort, parts_fit}
use Rattle.syn_value.proofs.DefaultLaws.{parts_there}
use Rattle.syn_value.proofs.SortCases.{of_List, of_Num, of_Tuple}
use Rattle.syn_value.proofs.Trees.{With, by_values, tree_of}
use Rattle.syn_model.specs.declared.decl.Decl.{Decl}
use Rattle.syn_model.specs.declared.decl.Decl.TheVariants as decl
use Rattle.syn_model.specs.Declaring.{IsTheory, nothing, one_more}
use Rattle.syn_model.specs.Tables.{fun_symbol, order_symbol, rel_symbol, table_after, table_of}
use Rattle.syn_model.specs.Theories.{MayBring}
use Rattle.syn_model.specs.Truth.{OfSorts}

-- the table with one declaration more
pub table_next : (ds : List Decl) (d : Decl) → table_of (ds ++ d ∷ []) ≡ table_after (table_of ds) d
table_next ds d = fold-append table_after first_symbols ds (d ∷ [])

pub after_grows : (t : SymbolTable) (d : Decl) → IsPrefix t (table_after t d)
after_grows t (decl.ListSort name nil cons item) = IsPrefix-with_list t name nil cons item
after_grows t (decl.TupleSort name make parts) = IsPrefix-with_tuple t name make parts
after_grows t (decl.Fun name args result) = IsPrefix-with_symbol t (fun_symbol name args result)
after_grows t (decl.Rel name args) = IsPrefix-with_symbol t (rel_symbol name args)
after_grows t (decl.Order name args measure) = IsPrefix-with_symbol t (order_symbol name args)
after_grows t (decl.FunClause args body) = IsPrefix-refl t
after_grows t (decl.RelClause args body) = IsPrefix-refl t
after_grows t (decl.Axiom name form) = IsPrefix-refl t
after_grows t (decl.Monotone name mono) = IsPrefix-refl t

pub all_grow : (t : SymbolTable) (ds : List Decl) → IsPrefix t (fold table_after t ds)
all_grow t [] = IsPrefix-refl t
all_grow t (d ∷ ds) = IsPrefix-trans t (table_after t d) (fold table_after (table_after t d) ds) (after_grows t d) (all_grow (table_after t d) ds)

pub next_grows : (ds : List Decl) (d : Decl) → IsPrefix (table_of ds) (table_of (ds ++ d ∷ []))
next_grows ds d = subst (IsPrefix (table_of ds)) (sym (table_next ds d)) (after_grows (table_of ds) d)

after_table : (t : SymbolTable) (d : Decl) → IsTable t → MayBring t d → IsTable (table_after t d)
after_table t (decl.ListSort name nil cons item) h may = table_list t name nil cons item h may
after_table t (decl.TupleSort name make parts) h may = table_tuple t name make parts h may
after_table t (decl.Fun name args result) h may = table_added t (fun_symbol name args result) h may
after_table t (decl.Rel name args) h may = table_added t (rel_symbol name args) h may
after_table t (decl.Order name args measure) h may = table_added t (order_symbol name args) h may
after_table t (decl.FunClause args body) h may = h
after_table t (decl.RelClause args body) h may = h
after_table t (decl.Axiom name form) h may = h
after_table t (decl.Monotone name mono) h may = h

pub is_table : (ds : List Decl) → IsTheory ds → IsTable (table_of ds)
is_table _ nothing = table_first
is_table _ (one_more ds d before may) = subst IsTable (sym (table_next ds d)) (after_table (table_of ds) d (is_table ds before) may.brings)

module _ (small great : SymbolTable) (is : IsTable small) (grows : IsPrefix small great) where
  -- a sort that is there is built as before
  same_shape : (s : Sort) → IsSort small s → shape_of_sort small s ≡ shape_of_sort great s
  same_shape sort.Nat h = refl
  same_shape (sort.Named n) h =
      let d : NamedSort = record { name = []; shape = shape.Nat } in
      let there = slice_get-get_or small.sorts n d h in
      let also = ap (λ (xs : List NamedSort). slice_get xs n) grows.sorts ∙ slice_get-append small.sorts grows.more_sorts n (get_or small.sorts n d) there in
      ap (option_map (λ (x : NamedSort). x.shape)) (there ∙ sym also)

  item_there : (s : Sort) (nil cons : SymId) (item : Sort) → IsSort small s → shape_of_sort small s ≡ Some (shape.List nil cons item) → IsSort small item
  item_there sort.Nat nil cons item h e = absurd (cc)
  item_there (sort.Named n) nil cons item h e = from (slice_get small.sorts n) refl e
    where
      from : (o : Option NamedSort) → slice_get small.sorts n ≡ o → option_map (λ (x : NamedSort). x.shape) o ≡ Some (shape.List nil cons item) → IsSort small item
      from None at k = absurd (cc)
      from (Some y) at k = let is_list : y.shape ≡ shape.List nil cons item = cc in let lt = slice_get_within small.sorts n y at in below_more n (length small.sorts) (omega arith) item (subst (IsShapeAt small n) is_list (is.shapes n y at)).0

  -- the tests of a value by either table
  abbrev Same : ValueTree → Type 0
  Same v = (s : Sort) → IsSort small s → is_of_sort small v s ≡ is_of_sort great v s

  by_item : (xs : List (With Same)) (item : Sort) → IsSort small item → list_all (λ (fits : Sort → Bool). fits item) (map (is_of_sort small) (map (tree_of Same) xs)) ≡ list_all (λ (fits : Sort → Bool). fits item) (map (is_of_sort great) (map (tree_of Same) xs))
  by_item [] item h = refl
  by_item (x ∷ xs) item h = ap₂ (λ (a b : Bool). a && b) (x.1 item h) (by_item xs item h)

  by_parts : (xs : List (With Same)) (parts : List Sort) → All (IsSort small) parts → parts_fit (map (is_of_sort small) (map (tree_of Same) xs)) parts ≡ parts_fit (map (is_of_sort great) (map (tree_of Same) xs)) parts
  by_parts [] [] h = refl
  by_parts [] (s ∷ ss) h = refl
  by_parts (x ∷ xs) [] h = refl
  by_parts (x ∷ xs) (s ∷ ss) h = ap₂ (λ (a b : Bool). a && b) (x.1 s (All-head (IsSort small) s ss h)) (by_parts xs ss (All-tail (IsSort small) s ss h))

  module _ (s : Sort) (there : IsSort small s) (xs : List (With Same)) where
    list_fits : (o : Option Shape) → shape_of_sort small s ≡ o → fits_shape (ValueTree-F.List (map (is_of_sort small) (map (tree_of Same) xs))) o ≡ fits_shape (ValueTree-F.List (map (is_of_sort great) (map (tree_of Same) xs))) o
    list_fits None e = refl
    list_fits (Some shape.Nat) e = refl
    list_fits (Some (shape.List nil cons item)) e = by_item xs item (item_there s nil cons item there e)
    list_fits (Some (shape.Tuple make parts)) e = refl

    tuple_fits : (o : Option Shape) → shape_of_sort small s ≡ o → fits_shape (ValueTree-F.Tuple (map (is_of_sort small) (map (tree_of Same) xs))) o ≡ fits_shape (ValueTree-F.Tuple (map (is_of_sort great) (map (tree_of Same) xs))) o
    tuple_fits None e = refl
    tuple_fits (Some shape.Nat) e = refl
    tuple_fits (Some (shape.List nil cons item)) e = refl
    tuple_fits (Some (shape.Tuple make parts)) e = by_parts xs parts (parts_there small s make parts is there e)

  -- values are of the sorts that are there by either table
  pub same_test : (v : ValueTree) (s : Sort) → IsSort small s → is_of_sort small v s ≡ is_of_sort great v s
  same_test = by_values Same
      (λ n s h. of_Num small s n ∙ (ap (fits_shape (ValueTree-F.Num n)) (same_shape s h) ∙ sym (of_Num great s n)))
      (λ xs s h. of_List small s (map (tree_of Same) xs) ∙ (list_fits s h xs (shape_of_sort small s) refl ∙ (ap (fits_shape (ValueTree-F.List (map (is_of_sort great) (map (tree_of Same) xs)))) (same_shape s h) ∙ sym (of_List great s (map (tree_of Same) xs)))))
      (λ xs s h. of_Tuple small s (map (tree_of Same) xs) ∙ (tuple_fits s h xs (shape_of_sort small s) refl ∙ (ap (fits_shape (ValueTree-F.Tuple (map (is_of_sort great) (map (tree_of Same) xs)))) (same_shape s h) ∙ sym (of_Tuple great s (map (tree_of Same) xs)))))

  pub sort_kept : (s : Sort) (v : ValueTree) → IsSort small s → OfSort small s v → OfSort great s v
  sort_kept s v there h = sym (same_test v s there) ∙ h

  pub sorts_back : (ss : List Sort) (vs : List ValueTree) → All (IsSort small) ss → OfSorts great ss vs → OfSorts small ss vs
  sorts_back [] [] there h = tt
  sorts_back [] (v ∷ vs) there h = absurd h
  sorts_back (s ∷ ss) [] there h = absurd h
  sorts_back (s ∷ ss) (v ∷ vs) there h = (same_test v s (All-head (IsSort small) s ss there) ∙ h.0, sorts_back ss vs (All-tail (IsSort small) s ss there) h.1)
