-- The sort of a kept value, by its cases.
use Rattle.std.proofs.Common.{◌≡◌, ◌≤◌, ℕ, zero, suc, Bool, false, List, [], ◌∷◌, Option, Some, None, Bor, map, length, drop, nat_eq, refl, sym, ap, ◌∙◌, arith}
use Rattle.std.specs.List.{list_all}
use Rattle.std.specs.Option.{option_copied}
use Rattle.std.proofs.lemmas.List.Folds.{list_all-map}
use Rattle.std.proofs.lemmas.Bool.Decides.{nat_tests}
use Rattle.syn_term.specs.declared.sorts.Sort.{Sort}
use Rattle.syn_term.specs.declared.sorts.Shape.{Shape}
use Rattle.syn_term.specs.declared.sorts.Shape.TheVariants as shape
use Rattle.syn_term.specs.Symbols.{SymbolTable}
use Rattle.syn_term.specs.DeclaredSorts.{shape_of_sort}
use Rattle.syn_value.specs.declared.tree.ValueTree.{ValueTree}
use Rattle.syn_value.specs.declared.tree.ValueTree.TheOpen.{ValueTree-F}
use Rattle.syn_value.specs.declared.tree.ValueTree.TheVariants as tree
use Rattle.syn_value.specs.declared.tree.ValueTree.TheViews as view
use Rattle.syn_value.specs.declared.nodes.Node.{Node}
use Rattle.syn_value.specs.declared.nodes.Seq.{Seq}
use Rattle.syn_value.specs.declared.nodes.Node.TheVariants as node
use Rattle.syn_value.specs.Values.{fits_shape, is_of_sort, parts_fit, sort_step}
use Rattle.syn_value.specs.inner.Nodes.{items, meaning}
use Rattle.syn_value.specs.inner.Sorting.{is_number_shape, item_sort, part_sorts}
use Rattle.syn_value.proofs.Meanings.{meaning-Num, meaning-List, meaning-Tuple}
use Rattle.syn_value.proofs.Trees.{fold-Num, fold-List, fold-Tuple}

number_shape : (n : ℕ) (o : Option Shape) → is_number_shape o ≡ fits_shape (ValueTree-F.Num n) o
number_shape n None = refl
number_shape n (Some shape.Nat) = refl
number_shape n (Some (shape.List nil cons item)) = refl
number_shape n (Some (shape.Tuple make parts)) = refl

no_item_shape : (fs : List (Sort → Bool)) (o : Option Shape) → item_sort o ≡ None → false ≡ fits_shape (ValueTree-F.List fs) o
no_item_shape fs None e = refl
no_item_shape fs (Some shape.Nat) e = refl
no_item_shape fs (Some (shape.List nil cons item)) e = absurd (cc)
no_item_shape fs (Some (shape.Tuple make parts)) e = refl

item_shape : (fs : List (Sort → Bool)) (o : Option Shape) (i : Sort) → item_sort o ≡ Some i → list_all (λ fits. fits i) fs ≡ fits_shape (ValueTree-F.List fs) o
item_shape fs None i e = absurd (cc)
item_shape fs (Some shape.Nat) i e = absurd (cc)
item_shape fs (Some (shape.List nil cons item)) i e = let h : i ≡ item = cc in ap (λ (s : Sort). list_all (λ (fits : Sort → Bool). fits s) fs) h
item_shape fs (Some (shape.Tuple make parts)) i e = absurd (cc)

no_parts_shape : (fs : List (Sort → Bool)) (o : Option Shape) → part_sorts o ≡ None → false ≡ fits_shape (ValueTree-F.Tuple fs) o
no_parts_shape fs None e = refl
no_parts_shape fs (Some shape.Nat) e = refl
no_parts_shape fs (Some (shape.List nil cons item)) e = refl
no_parts_shape fs (Some (shape.Tuple make parts)) e = absurd (cc)

parts_shape : (fs : List (Sort → Bool)) (o : Option Shape) (sorts : List Sort) → part_sorts o ≡ Some sorts → parts_fit fs sorts ≡ fits_shape (ValueTree-F.Tuple fs) o
parts_shape fs None sorts e = absurd (cc)
parts_shape fs (Some shape.Nat) sorts e = absurd (cc)
parts_shape fs (Some (shape.List nil cons item)) sorts e = absurd (cc)
parts_shape fs (Some (shape.Tuple make parts)) sorts e = let h : sorts ≡ parts = cc in ap (parts_fit fs) h

module _ (table : SymbolTable) (sort : Sort) where
  -- which sorts a number, a list and a tuple are of
  pub of_Num : (n : ℕ) → is_of_sort table (tree.Num n) sort ≡ fits_shape (ValueTree-F.Num n) (shape_of_sort table sort)
  of_Num n = ap (λ (f : Sort → Bool). f sort) (fold-Num (sort_step table) n)

  pub of_List : (xs : List ValueTree) → is_of_sort table (view.List xs) sort ≡ fits_shape (ValueTree-F.List (map (is_of_sort table) xs)) (shape_of_sort table sort)
  of_List xs = ap (λ (f : Sort → Bool). f sort) (fold-List (sort_step table) xs)

  pub of_Tuple : (xs : List ValueTree) → is_of_sort table (view.Tuple xs) sort ≡ fits_shape (ValueTree-F.Tuple (map (is_of_sort table) xs)) (shape_of_sort table sort)
  of_Tuple xs = ap (λ (f : Sort → Bool). f sort) (fold-Tuple (sort_step table) xs)

  abbrev fitting : ValueTree → Bool
  fitting v = is_of_sort table v sort

  pub number_fits : (a : Node) (n : ℕ) (r : Bool) → a ≡ node.Num n → r ≡ is_number_shape (shape_of_sort table sort) → r ≡ is_of_sort table (meaning a) sort
  number_fits a n r is h = h ∙ (number_shape n (shape_of_sort table sort) ∙ sym (ap fitting (ap meaning is ∙ meaning-Num n) ∙ of_Num n))

  pub no_list_fits : (a : Node) (s : Seq) (o : Option Sort) → a ≡ node.List s → o ≡ item_sort (shape_of_sort table sort) → o ≡ None → false ≡ is_of_sort table (meaning a) sort
  no_list_fits a s o is h none =
      no_item_shape (map (is_of_sort table) (items s)) (shape_of_sort table sort) (sym h ∙ none) ∙ sym (ap fitting (ap meaning is ∙ meaning-List s) ∙ of_List (items s))

  pub list_fits : (a : Node) (s : Seq) (o : Option Sort) (i : Sort) (r : Bool) → a ≡ node.List s → o ≡ item_sort (shape_of_sort table sort) → o ≡ Some i → r ≡ list_all (λ v. is_of_sort table v i) (items s) → r ≡ is_of_sort table (meaning a) sort
  list_fits a s o i r is h some all =
      all ∙ (sym (list_all-map (λ (fits : Sort → Bool). fits i) (is_of_sort table) (items s))
      ∙ (item_shape (map (is_of_sort table) (items s)) (shape_of_sort table sort) i (sym h ∙ some) ∙ sym (ap fitting (ap meaning is ∙ meaning-List s) ∙ of_List (items s))))

  pub no_tuple_fits : (a : Node) (s : Seq) (o : Option (Bor (List Sort))) → a ≡ node.Tuple s → option_copied o ≡ part_sorts (shape_of_sort table sort) → o ≡ None → false ≡ is_of_sort table (meaning a) sort
  no_tuple_fits a s o is h none =
      let e : part_sorts (shape_of_sort table sort) ≡ None = sym h ∙ ap (λ (p : Option (Bor (List Sort))). option_copied p) none in
      no_parts_shape (map (is_of_sort table) (items s)) (shape_of_sort table sort) e ∙ sym (ap fitting (ap meaning is ∙ meaning-Tuple s) ∙ of_Tuple (items s))

  pub tuple_fits : (a : Node) (s : Seq) (o : Option (Bor (List Sort))) (b : Bor (List Sort)) (r : Bool) → a ≡ node.Tuple s → option_copied o ≡ part_sorts (shape_of_sort table sort) → o ≡ Some b → r ≡ parts_fit (map (is_of_sort table) (items s)) b.now → r ≡ is_of_sort table (meaning a) sort
  tuple_fits a s o b r is h some all =
      let e : part_sorts (shape_of_sort table sort) ≡ Some b.now = sym h ∙ ap (λ (p : Option (Bor (List Sort))). option_copied p) some in
      all ∙ (parts_shape (map (is_of_sort table) (items s)) (shape_of_sort table sort) b.now e ∙ sym (ap fitting (ap meaning is ∙ meaning-Tuple s) ∙ of_Tuple (items s)))

none_first : (n : ℕ) → false ≡ nat_eq 0 (suc n)
none_first n = grind (arith, nat_tests)

both_more : (i n : ℕ) → nat_eq i n ≡ nat_eq (suc i) (suc n)
both_more i n = grind (arith, nat_tests)

-- no parts fit the sorts from a place on just where that is their end
pub no_more : (sorts : List Sort) (i : ℕ) → i ≤ length sorts → parts_fit [] (drop i sorts) ≡ nat_eq i (length sorts)
no_more [] zero le = refl
no_more [] (suc i) le = absurd (omega arith)
no_more (s ∷ sorts) zero le = none_first (length sorts)
no_more (s ∷ sorts) (suc i) le = no_more sorts i (omega arith) ∙ both_more i (length sorts)
