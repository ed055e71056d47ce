-- The default of a sort from those of its parts: each declared sort's default is made from those before it, which stay.
use Rattle.std.proofs.Common.{◌≡◌, ◌≤◌, ◌<◌, ◌+◌, ℕ, zero, suc, max, List, [], ◌∷◌, ◌++◌, Option, Some, None, All, fold, map, length, get_or, slice_get, refl, sym, ap, subst, ◌∙◌, append_assoc, arith}
use Rattle.std.specs.Option.{option_map, unwrap_or}
use Rattle.std.proofs.lemmas.List.Elements.{All-head, All-tail, All-weaker}
use mathlib.Core.List.{append-nil}
use Rattle.syn_term.specs.declared.sorts.Sort.{Sort}
use Rattle.syn_term.specs.declared.sorts.Sort.TheVariants.{Nat, Named}
use Rattle.syn_term.specs.declared.sorts.Shape.{Shape}
use Rattle.syn_term.specs.declared.sorts.Shape.TheVariants as shape
use Rattle.syn_term.specs.declared.sorts.NamedSort.{NamedSort}
use Rattle.syn_term.specs.declared.sorts.SymId.{SymId}
use Rattle.syn_term.specs.Symbols.{SymbolTable, IsSort, IsSortBelow}
use Rattle.syn_term.specs.DeclaredSorts.{IsShapeAt, IsTable, shape_of_sort}
use Rattle.syn_value.specs.Defaults.{Making, default_by, default_in, default_of_shape, defaults_of}

-- what a list of defaults has, it has with more behind it
get_front : {A : Type 0} (xs ys : List A) (k : ℕ) → k < length xs → slice_get (xs ++ ys) k ≡ slice_get xs k
get_front [] ys k lt = absurd (omega arith)
get_front (x ∷ xs) ys zero lt = refl
get_front (x ∷ xs) ys (suc k) lt = get_front xs ys k (omega arith)

get_last : {A : Type 0} (xs : List A) (y : A) (ys : List A) → slice_get (xs ++ y ∷ ys) (length xs) ≡ Some y
get_last [] y ys = refl
get_last (x ∷ xs) y ys = get_last xs y ys

length_more : {A : Type 0} (xs : List A) (y : A) → length (xs ++ y ∷ []) ≡ length xs + 1
length_more [] y = refl
length_more (x ∷ xs) y = let h : length (xs ++ y ∷ []) ≡ length xs + 1 = length_more xs y in omega arith

module _ {A : Type 0} (make : Making A) where
  abbrev next : List A → NamedSort → List A
  next defaults sort = defaults ++ default_of_shape make defaults sort.shape ∷ []

  -- the defaults at a place: those before it, its own, and those behind it
  record Placed (all : List A) (k : ℕ) (s : Shape) : Type 0 where
    before : List A
    behind : List A
    count : length before ≡ k
    is : all ≡ before ++ default_of_shape make before s ∷ behind

  behind_all : (acc : List A) (sorts : List NamedSort) → (more : List A) × (fold next acc sorts ≡ acc ++ more)
  behind_all acc [] = ([], sym (append-nil acc))
  behind_all acc (s ∷ ss) =
      let h = behind_all (next acc s) ss in
      (default_of_shape make acc s.shape ∷ h.0, h.1 ∙ append_assoc acc (default_of_shape make acc s.shape ∷ []) h.0)

  placed : (sorts : List NamedSort) (acc : List A) (k n : ℕ) (s : NamedSort) → slice_get sorts k ≡ Some s → n ≡ length acc + k → Placed (fold next acc sorts) n s.shape
  placed [] acc k n s e is = absurd (cc)
  placed (x ∷ xs) acc zero n s e is =
      let same : x ≡ s = cc in
      let h = behind_all (next acc x) xs in
      record {
        before = acc;
        behind = h.0;
        count = omega arith;
        is = h.1 ∙ (append_assoc acc (default_of_shape make acc x.shape ∷ []) h.0 ∙ ap (λ (z : NamedSort). acc ++ default_of_shape make acc z.shape ∷ h.0) same);
      }
  placed (x ∷ xs) acc (suc k) n s e is =
      let longer : length (next acc x) ≡ length acc + 1 = length_more acc (default_of_shape make acc x.shape) in
      placed xs (next acc x) k n s e (omega arith)

  in_front : (before behind : List A) (k : ℕ) (sort : Sort) → k ≡ length before → IsSortBelow k sort → default_in make before sort ≡ default_in make (before ++ behind) sort
  in_front before behind k Nat same below = refl
  in_front before behind k (Named n) same below = ap (λ (o : Option A). unwrap_or o make.number) (sym (get_front before behind n (omega arith)))

  all_in_front : (before behind : List A) (k : ℕ) (sorts : List Sort) → k ≡ length before → All (IsSortBelow k) sorts → map (default_in make before) sorts ≡ map (default_in make (before ++ behind)) sorts
  all_in_front before behind k [] same all = refl
  all_in_front before behind k (s ∷ ss) same all =
      let e = in_front before behind k s same (All-head (IsSortBelow k) s ss all) in
      let h = all_in_front before behind k ss same (All-tail (IsSortBelow k) s ss all) in cc

  at_place : (table : SymbolTable) (n : ℕ) (s : NamedSort) (p : Placed (defaults_of make table.sorts) n s.shape) → default_by make table (Named n) ≡ default_of_shape make p.before s.shape
  at_place table n s p =
      let d = default_of_shape make p.before s.shape in
      let e : slice_get (defaults_of make table.sorts) n ≡ Some d = ap (λ (xs : List A). slice_get xs n) p.is ∙ (ap (slice_get (p.before ++ d ∷ p.behind)) (sym p.count) ∙ get_last p.before d p.behind) in
      ap (λ (o : Option A). unwrap_or o make.number) e

  shaped : (table : SymbolTable) (n : ℕ) (s : NamedSort) (sh : Shape) → slice_get table.sorts n ≡ Some s → s.shape ≡ sh → IsShapeAt table n sh → default_by make table (Named n) ≡ default_of_shape make (defaults_of make table.sorts) sh
  shaped table n s shape.Nat e is h = absurd h
  shaped table n s (shape.List nil cons item) e is h =
      let p = placed table.sorts [] n n s e (omega arith) in
      at_place table n s p ∙ ap (default_of_shape make p.before) is
  shaped table n s (shape.Tuple maker parts) e is h =
      let p = placed table.sorts [] n n s e (omega arith) in
      let kept : map (default_in make p.before) parts ≡ map (default_in make (p.before ++ default_of_shape make p.before s.shape ∷ p.behind)) parts = all_in_front p.before (default_of_shape make p.before s.shape ∷ p.behind) n parts (sym p.count) h.0 in
      at_place table n s p ∙ (ap (default_of_shape make p.before) is
      ∙ ap (make.tuple maker) (kept ∙ ap (λ (xs : List A). map (default_in make xs) parts) (sym p.is)))

  found : (table : SymbolTable) (n : ℕ) (o : Option NamedSort) (sh : Shape) → IsTable table → slice_get table.sorts n ≡ o → option_map (λ (s : NamedSort). s.shape) o ≡ Some sh → default_by make table (Named n) ≡ default_of_shape make (defaults_of make table.sorts) sh
  found table n None sh is at e = absurd (cc)
  found table n (Some s) sh is at e =
      let same : s.shape ≡ sh = cc in
      shaped table n s sh at same (subst (IsShapeAt table n) same (is.shapes n s at))

  -- the default of a sort that is there, by its shape
  pub default_shape : (table : SymbolTable) (sort : Sort) (sh : Shape) → IsTable table → shape_of_sort table sort ≡ Some sh → default_by make table sort ≡ default_of_shape make (defaults_of make table.sorts) sh
  default_shape table Nat sh is e = let same : shape.Nat ≡ sh = cc in ap (default_of_shape make (defaults_of make table.sorts)) same
  default_shape table (Named n) sh is e = found table n (slice_get table.sorts n) sh is refl e

-- the parts of a tuple sort are below it
parts_found : (table : SymbolTable) (n : ℕ) (o : Option NamedSort) (maker : SymId) (parts : List Sort) → IsTable table → slice_get table.sorts n ≡ o → option_map (λ (s : NamedSort). s.shape) o ≡ Some (shape.Tuple maker parts) → All (IsSortBelow n) parts
parts_found table n None maker parts is at e = absurd (cc)
parts_found table n (Some s) maker parts is at e =
    let same : s.shape ≡ shape.Tuple maker parts = cc in
    let h : IsShapeAt table n (shape.Tuple maker parts) = subst (IsShapeAt table n) same (is.shapes n s at) in h.0

-- the number of a sort, counted from 1, and 0 for the natural numbers
abbrev pub rank : Sort → ℕ
rank Nat = 0
rank (Named n) = n + 1

abbrev pub highest : List Sort → ℕ
highest [] = 0
highest (s ∷ ss) = max (rank s) (highest ss)

rank_below : (k : ℕ) (s : Sort) → IsSortBelow k s → rank s ≤ k
rank_below k Nat h = omega arith
rank_below k (Named n) h = omega arith

highest_below : (k : ℕ) (ss : List Sort) → All (IsSortBelow k) ss → highest ss ≤ k
highest_below k [] all = omega arith
highest_below k (s ∷ ss) all =
    let a : rank s ≤ k = rank_below k s (All-head (IsSortBelow k) s ss all) in
    let b : highest ss ≤ k = highest_below k ss (All-tail (IsSortBelow k) s ss all) in omega arith

pub parts_lower : (table : SymbolTable) (sort : Sort) (maker : SymId) (parts : List Sort) → IsTable table → shape_of_sort table sort ≡ Some (shape.Tuple maker parts) → highest parts < rank sort
parts_lower table Nat maker parts is e = absurd (cc)
parts_lower table (Named n) maker parts is e =
    let h : highest parts ≤ n = highest_below n parts (parts_found table n (slice_get table.sorts n) maker parts is refl e) in omega arith

pub rank_at : (ss : List Sort) (i : ℕ) (d : Sort) → i < length ss → rank (get_or ss i d) ≤ highest ss
rank_at [] i d lt = absurd (omega arith)
rank_at (s ∷ ss) zero d lt = omega arith
rank_at (s ∷ ss) (suc i) d lt = let h : rank (get_or ss i d) ≤ highest ss = rank_at ss i d (omega arith) in omega arith

sort_more : (k m : ℕ) (s : Sort) → k < m → IsSortBelow k s → IsSortBelow m s
sort_more k m Nat le h = tt
sort_more k m (Named n) le h = omega arith

sorts_more : (k m : ℕ) (ss : List Sort) → k < m → All (IsSortBelow k) ss → All (IsSortBelow m) ss
sorts_more k m ss le = All-weaker (IsSortBelow k) (IsSortBelow m) (λ s. sort_more k m s le) ss

-- and they are there
pub parts_there : (table : SymbolTable) (sort : Sort) (maker : SymId) (parts : List Sort) → IsTable table → IsSort table sort → shape_of_sort table sort ≡ Some (shape.Tuple maker parts) → All (IsSort table) parts
parts_there table Nat maker parts is there e = absurd (cc)
parts_there table (Named n) maker parts is there e = sorts_more n (length table.sorts) parts there (parts_found table n (slice_get table.sorts n) maker parts is refl e)

within : (xs : List NamedSort) (n : ℕ) → n < length xs → slice_get xs n ≡ None → ⊥
within [] n lt e = absurd (omega arith)
within (x ∷ xs) zero lt e = absurd (cc)
within (x ∷ xs) (suc n) lt e = within xs n (omega arith) e

none_found : (table : SymbolTable) (n : ℕ) (o : Option NamedSort) → slice_get table.sorts n ≡ o → n < length table.sorts → option_map (λ (s : NamedSort). s.shape) o ≡ None → ⊥
none_found table n None at lt e = within table.sorts n lt at
none_found table n (Some s) at lt e = absurd (cc)

-- a sort that is there has a shape
pub has_shape : (table : SymbolTable) (sort : Sort) → IsSort table sort → shape_of_sort table sort ≡ None → ⊥
has_shape table Nat there e = absurd (cc)
has_shape table (Named n) there e = none_found table n (slice_get table.sorts n) refl there e

-- the shape that the table told
pub list_told : (o : Option Shape) (f : Shape) (nil cons : SymId) (item : Sort) → Some f ≡ o → f ≡ shape.List nil cons item → o ≡ Some (shape.List nil cons item)
list_told o f nil cons item told is = sym told ∙ ap Some is

pub tuple_told : (o : Option Shape) (f : Shape) (maker : SymId) (parts slice : List Sort) → Some f ≡ o → f ≡ shape.Tuple maker parts → slice ≡ parts → o ≡ Some (shape.Tuple maker slice)
tuple_told o f maker parts slice told is same = sym told ∙ ap Some (is ∙ ap (shape.Tuple maker) (sym same))
