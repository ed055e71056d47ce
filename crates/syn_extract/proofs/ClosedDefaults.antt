-- Default terms are sorted, of their sort, and have no variables.
use Rattle.std.proofs.Common.{◌≡◌, ◌≤◌, ◌<◌, ◌+◌, ℕ, zero, suc, List, [], ◌∷◌, ◌++◌, Option, Some, None, All, map, refl, sym, ap, subst, ◌∙◌, arith}
use Rattle.std.specs.List.{flat_map}
use Rattle.std.proofs.lemmas.List.Elements.{All-head, All-tail, All-nil, All-cons}
use Rattle.syn_term.specs.declared.sorts.Kind.TheVariants as kind
use Rattle.syn_term.specs.declared.sorts.Sort.{Sort}
use Rattle.syn_term.specs.declared.sorts.Shape.{Shape}
use Rattle.syn_term.specs.declared.sorts.Shape.TheVariants as shape
use Rattle.syn_term.specs.declared.sorts.SymId.{SymId}
use Rattle.syn_term.specs.declared.sorts.Var.{Var}
use Rattle.syn_term.specs.Symbols.{SymbolTable, IsSort}
use Rattle.syn_term.specs.DeclaredSorts.{IsTable, shape_of_sort}
use Rattle.syn_term.specs.Terms.{IsApplication, TermTree, application, nowhere, sort_of}
use Rattle.syn_term.proofs.Trees.{fold-App}
use Rattle.syn_form.specs.Plain.{IsKnownSort, IsSorted, SortedNode, result_of}
use Rattle.syn_form.specs.Trees.{term_vars, term_vars_step}
use Rattle.syn_form.proofs.Lists.{all_of-map}
use Rattle.syn_form.proofs.Sorting.{sort_of-application}
use Rattle.syn_form.proofs.TermNodes.{every-App}
use Rattle.syn_value.specs.Defaults.{default_term_tree, making_terms}
use Rattle.syn_value.proofs.DefaultLaws.{default_shape, has_shape, highest, parts_lower, parts_there, rank}
use Rattle.syn_value.proofs.DefaultTerms.{nil_maker, nil_may, tuple_maker, tuple_may, valued, zero_may, zero_valued}

-- the term is sorted, of this sort, and has no variables
pub record IsClosedOf (table : SymbolTable) (sort : Sort) (t : TermTree) : Type 0 where
  pub sorted : IsSorted table t
  pub of_sort : sort_of table t ≡ Some sort
  pub none : term_vars t ≡ []

pub vars-application : (f : SymId) (ts : List TermTree) → flat_map term_vars ts ≡ [] → term_vars (application f ts) ≡ []
vars-application f ts none = fold-App term_vars_step nowhere f ts ∙ (all_of-map term_vars ts ∙ none)

module _ (table : SymbolTable) (is : IsTable table) where
  made : (f : SymId) (ts : List TermTree) (sort : Sort) → IsApplication table f ts → result_of table f ≡ Some sort → IsSort table sort → All (IsSorted table) ts → flat_map term_vars ts ≡ [] → IsClosedOf table sort (application f ts)
  made f ts sort may gives there sorted none =
      let known : IsKnownSort table (result_of table f) = (sort, gives, there) in
      record {
        sorted = every-App (SortedNode table) nowhere f ts (may, known) sorted;
        of_sort = sort_of-application table nowhere f ts ∙ gives;
        none = vars-application f ts none;
      }

  abbrev Fine : Sort → Type 0
  Fine sort = IsClosedOf table sort (default_term_tree table sort)

  record AreFine (sorts : List Sort) : Type 0 where
    sorted : All (IsSorted table) (map (default_term_tree table) sorts)
    of_sorts : map (sort_of table) (map (default_term_tree table) sorts) ≡ map Some sorts
    none : flat_map term_vars (map (default_term_tree table) sorts) ≡ []

  -- the parts' defaults are so, where those of all lower sorts are
  parts_are : (n : ℕ) (sorts : List Sort) → ((s : Sort) → rank s < n → IsSort table s → Fine s) → highest sorts < n → All (IsSort table) sorts → AreFine sorts
  parts_are n [] lower low there = record { sorted = All-nil (IsSorted table); of_sorts = refl; none = refl }
  parts_are n (s ∷ ss) lower low there =
      let d = default_term_tree table s in
      let ds = map (default_term_tree table) ss in
      let first = lower s (omega arith) (All-head (IsSort table) s ss there) in
      let rest = parts_are n ss lower (omega arith) (All-tail (IsSort table) s ss there) in
      record {
        sorted = All-cons (IsSorted table) d ds first.sorted rest.sorted;
        of_sorts = ap (λ (z : Option Sort). z ∷ map (sort_of table) ds) first.of_sort ∙ ap (λ (z : List (Option Sort)). Some s ∷ z) rest.of_sorts;
        none = ap (λ (z : List Var). z ++ flat_map term_vars ds) first.none ∙ rest.none;
      }

  by_shape : (n : ℕ) (sort : Sort) (o : Option Shape) → ((s : Sort) → rank s < n → IsSort table s → Fine s) → rank sort ≤ n → IsSort table sort → shape_of_sort table sort ≡ o → Fine sort
  by_shape n sort None lower low there e = absurd (has_shape table sort there e)
  by_shape n sort (Some shape.Nat) lower low there e =
      let d = default_shape making_terms table sort shape.Nat is e in
      subst (IsClosedOf table sort) (sym d) (made (record { 0 = 0 }) [] sort (zero_may table is) (zero_valued table sort None shape.Nat is e) there (All-nil (IsSorted table)) refl)
  by_shape n sort (Some (shape.List nil cons item)) lower low there e =
      let d = default_shape making_terms table sort (shape.List nil cons item) is e in
      let m = nil_maker table sort nil cons item is e in
      subst (IsClosedOf table sort) (sym d) (made nil [] sort (nil_may table nil sort m) (valued table nil kind.Nil [] sort m) there (All-nil (IsSorted table)) refl)
  by_shape n sort (Some (shape.Tuple maker parts)) lower low there e =
      let d = default_shape making_terms table sort (shape.Tuple maker parts) is e in
      let m = tuple_maker table sort maker parts is e in
      let below : highest parts < rank sort = parts_lower table sort maker parts is e in
      let p = parts_are n parts lower (omega arith) (parts_there table sort maker parts is there e) in
      let ts = map (default_term_tree table) parts in
      subst (IsClosedOf table sort) (sym d) (made maker ts sort (tuple_may table maker parts sort ts m p.of_sorts) (valued table maker kind.Tuple parts sort m) there p.sorted p.none)

  by_rank : (n : ℕ) (sort : Sort) → rank sort < n → IsSort table sort → Fine sort
  by_rank zero sort low there = absurd (omega arith)
  by_rank (suc n) sort low there = by_shape n sort (shape_of_sort table sort) (by_rank n) (omega arith) there refl

  pub default_closed : (sort : Sort) → IsSort table sort → IsClosedOf table sort (default_term_tree table sort)
  default_closed sort there = by_rank (rank sort + 1) sort (omega arith) there
