-- The makers of default terms, and the arguments that are made one after another.
use Rattle.std.proofs.Common.{◌≡◌, ◌≢◌, ◌≤◌, ◌<◌, ◌+◌, ℕ, List, [], ◌∷◌, ◌++◌, Option, Some, None, Result, IfOk, All, map, length, get_or, take, slice_get, refl, sym, ap, subst, ◌∙◌}
use Rattle.std.specs.Option.{option_and_then, option_map}
use Rattle.std.proofs.lemmas.List.{map-append, take_all, take_more}
use Rattle.std.proofs.lemmas.List.Elements.{All-append, All-cons, All-nil, All-weaker}
use Rattle.syn_term.specs.declared.sorts.Kind.{Kind}
use Rattle.syn_term.specs.declared.sorts.Kind.TheVariants as kind
use Rattle.syn_term.specs.declared.sorts.Sort.{Sort}
use Rattle.syn_term.specs.declared.sorts.Sort.TheVariants.{Nat, Named}
use Rattle.syn_term.specs.declared.sorts.Shape.{Shape}
use Rattle.syn_term.specs.declared.sorts.Shape.TheVariants as shape
use Rattle.syn_term.specs.declared.sorts.NamedSort.{NamedSort}
use Rattle.syn_term.specs.declared.sorts.Sym.{Sym}
use Rattle.syn_term.specs.declared.sorts.SymId.{SymId}
use Rattle.syn_term.specs.Bank.{Kept, Belongs, Belongs-extends, Extends, Extends-refl, Extends-trans}
use Rattle.syn_term.specs.Symbols.{SymbolTable, symbol_at, zero_symbol}
use Rattle.syn_term.specs.DeclaredSorts.{IsMaker, IsShapeAt, IsTable, shape_of_sort}
use Rattle.syn_term.specs.Terms.{IsApplication, TermTree, application, bare, sort_of}
use Rattle.syn_value.specs.Defaults.{default_term_tree, making_terms}
use Rattle.syn_value.proofs.DefaultLaws.{default_shape}
use Rattle.std.proofs.lemmas.Result.{IfOk-weaker}
use Rattle.syn_value.specs.inner.Applying.{IsValued}

-- the shape of a declared sort is as a table asks
shape_found : (table : SymbolTable) (n : ℕ) (o : Option NamedSort) (sh : Shape) → IsTable table → slice_get table.sorts n ≡ o → option_map (λ (s : NamedSort). s.shape) o ≡ Some sh → IsShapeAt table n sh
shape_found table n None sh is at e = absurd (cc)
shape_found table n (Some s) sh is at e = let same : s.shape ≡ sh = cc in subst (IsShapeAt table n) same (is.shapes n s at)

pub nil_maker : (table : SymbolTable) (sort : Sort) (nil cons : SymId) (item : Sort) → IsTable table → shape_of_sort table sort ≡ Some (shape.List nil cons item) → IsMaker table nil kind.Nil [] sort
nil_maker table Nat nil cons item is e = absurd (cc)
nil_maker table (Named n) nil cons item is e = (shape_found table n (slice_get table.sorts n) (shape.List nil cons item) is refl e).1

pub tuple_maker : (table : SymbolTable) (sort : Sort) (maker : SymId) (parts : List Sort) → IsTable table → shape_of_sort table sort ≡ Some (shape.Tuple maker parts) → IsMaker table maker kind.Tuple parts sort
tuple_maker table Nat maker parts is e = absurd (cc)
tuple_maker table (Named n) maker parts is e = (shape_found table n (slice_get table.sorts n) (shape.Tuple maker parts) is refl e).3

zero_is : (table : SymbolTable) → IsTable table → symbol_at table (record { 0 = 0 }) ≡ Some zero_symbol
zero_is table is = ap (λ (xs : List Sym). slice_get xs 0) is.begins

pub zero_may : (table : SymbolTable) → IsTable table → IsApplication table (record { 0 = 0 }) []
zero_may table is = record { sym = zero_symbol; is = zero_is table is; no_relation = λ e. absurd (cc); no_order = λ e. absurd (cc); sorts = refl }

pub zero_valued : (table : SymbolTable) (sort : Sort) (o : Option Shape) (f : Shape) → IsTable table → shape_of_sort table sort ≡ Some shape.Nat → IsValued table (record { 0 = 0 }) sort
zero_valued table Nat o f is e = ap (option_and_then (λ (s : Sym). s.result)) (zero_is table is)
zero_valued table (Named n) o f is e = absurd (shape_found table n (slice_get table.sorts n) shape.Nat is refl e)

pub may_apply : (table : SymbolTable) (f : SymId) (k : Kind) (args : List Sort) (sort : Sort) (ts : List TermTree) → IsMaker table f k args sort → k ≢ kind.Rel → k ≢ kind.Order → map (sort_of table) ts ≡ map Some args → IsApplication table f ts
may_apply table f k args sort ts m no_relation no_order sorts =
    record { sym = record { name = m.name; kind = k; args = args; result = Some sort }; is = m.is; no_relation = no_relation; no_order = no_order; sorts = sorts }

pub nil_may : (table : SymbolTable) (f : SymId) (sort : Sort) → IsMaker table f kind.Nil [] sort → IsApplication table f []
nil_may table f sort m = may_apply table f kind.Nil [] sort [] m (λ e. absurd (cc)) (λ e. absurd (cc)) refl

pub tuple_may : (table : SymbolTable) (f : SymId) (parts : List Sort) (sort : Sort) (ts : List TermTree) → IsMaker table f kind.Tuple parts sort → map (sort_of table) ts ≡ map Some parts → IsApplication table f ts
tuple_may table f parts sort ts m sorts = may_apply table f kind.Tuple parts sort ts m (λ e. absurd (cc)) (λ e. absurd (cc)) sorts

pub valued : (table : SymbolTable) (f : SymId) (k : Kind) (args : List Sort) (sort : Sort) → IsMaker table f k args sort → IsValued table f sort
valued table f k args sort m = ap (option_and_then (λ (s : Sym). s.result)) m.is

-- the default terms of the first sorts were made
pub record Made (old bank : Kept) (table : SymbolTable) (made : List TermTree) (sorts : List Sort) (i : ℕ) : Type 0 where
  pub tree : map bare made ≡ map (default_term_tree table) (take i sorts)
  pub sort : map (sort_of table) made ≡ map Some (take i sorts)
  pub extends : Extends old bank
  pub belongs : All (Belongs bank) made

pub made_none : (old : Kept) (table : SymbolTable) (made : List TermTree) (sorts : List Sort) → made ≡ [] → Made old old table made sorts 0
made_none old table made sorts none = record {
  tree = ap (map bare) none;
  sort = ap (map (sort_of table)) none;
  extends = Extends-refl old;
  belongs = subst (All (Belongs old)) (sym none) (All-nil (Belongs old));
}

pub made_more : (old mid new : Kept) (table : SymbolTable) (made more : List TermTree) (t : TermTree) (sorts : List Sort) (i : ℕ) (d : Sort) → Made old mid table made sorts i → i < length sorts → bare t ≡ default_term_tree table (get_or sorts i d) → sort_of table t ≡ Some (get_or sorts i d) → Extends mid new → Belongs new t → more ≡ made ++ t ∷ [] → Made old new table more sorts (i + 1)
made_more old mid new table made more t sorts i d h lt tree sort extends belongs is =
    let x = get_or sorts i d in
    let next : take (i + 1) sorts ≡ take i sorts ++ x ∷ [] = take_more sorts i d lt in
    let trees : map bare (made ++ t ∷ []) ≡ map (default_term_tree table) (take i sorts ++ x ∷ []) =
    map-append bare made (t ∷ []) ∙ (ap (λ (z : List TermTree). z ++ bare t ∷ []) h.tree ∙ (ap (λ (z : TermTree). map (default_term_tree table) (take i sorts) ++ z ∷ []) tree ∙ sym (map-append (default_term_tree table) (take i sorts) (x ∷ [])))) in
    let sorted : map (sort_of table) (made ++ t ∷ []) ≡ map Some (take i sorts ++ x ∷ []) =
    map-append (sort_of table) made (t ∷ []) ∙ (ap (λ (z : List (Option Sort)). z ++ sort_of table t ∷ []) h.sort ∙ (ap (λ (z : Option Sort). map Some (take i sorts) ++ z ∷ []) sort ∙ sym (map-append (λ (s : Sort). Some s) (take i sorts) (x ∷ [])))) in
    let kept : All (Belongs new) made = All-weaker (Belongs mid) (Belongs new) (λ u b. Belongs-extends mid new u extends b) made h.belongs in
    record {
      tree = ap (map bare) is ∙ (trees ∙ ap (map (default_term_tree table)) (sym next));
      sort = ap (map (sort_of table)) is ∙ (sorted ∙ ap (map (λ (s : Sort). Some s)) (sym next));
      extends = Extends-trans old mid new h.extends extends;
      belongs = subst (All (Belongs new)) (sym is) (All-append (Belongs new) made (t ∷ []) kept (All-cons (Belongs new) t [] belongs (All-nil (Belongs new))));
    }

pub made_trees : (old bank : Kept) (table : SymbolTable) (made : List TermTree) (sorts : List Sort) (i : ℕ) → Made old bank table made sorts i → length sorts ≤ i → map bare made ≡ map (default_term_tree table) sorts
made_trees old bank table made sorts i h end = h.tree ∙ ap (map (default_term_tree table)) (take_all i sorts end)

pub made_sorts : (old bank : Kept) (table : SymbolTable) (made : List TermTree) (sorts : List Sort) (i : ℕ) → Made old bank table made sorts i → length sorts ≤ i → map (sort_of table) made ≡ map Some sorts
made_sorts old bank table made sorts i h end = h.sort ∙ ap (map (λ (s : Sort). Some s)) (take_all i sorts end)

-- what was made is the default term
pub list_tree : {E : Type 0} (table : SymbolTable) (sort : Sort) (nil cons : SymId) (item : Sort) (r : Result TermTree E) → IsTable table → shape_of_sort table sort ≡ Some (shape.List nil cons item) → IfOk r (λ u. bare u ≡ application nil []) → IfOk r (λ u. bare u ≡ default_term_tree table sort)
list_tree table sort nil cons item r is e h =
    IfOk-weaker r (λ u. bare u ≡ application nil []) (λ u. bare u ≡ default_term_tree table sort) (λ u k. k ∙ sym (default_shape making_terms table sort (shape.List nil cons item) is e)) h

pub tuple_tree : {E : Type 0} (table : SymbolTable) (sort : Sort) (maker : SymId) (parts : List Sort) (ts slice : List TermTree) (r : Result TermTree E) → IsTable table → shape_of_sort table sort ≡ Some (shape.Tuple maker parts) → slice ≡ ts → map bare ts ≡ map (default_term_tree table) parts → IfOk r (λ u. bare u ≡ application maker (map bare slice)) → IfOk r (λ u. bare u ≡ default_term_tree table sort)
tuple_tree table sort maker parts ts slice r is e same trees h =
    IfOk-weaker r (λ u. bare u ≡ application maker (map bare slice)) (λ u. bare u ≡ default_term_tree table sort)
    (λ u k. k ∙ (ap (application maker) (ap (map bare) same ∙ trees) ∙ sym (default_shape making_terms table sort (shape.Tuple maker parts) is e))) h
