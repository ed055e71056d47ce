-- The names of sorts: they stay distinct as sorts are declared and symbols are added, and a name is found at its place.
use Rattle.std.proofs.Math.Dec.{leb}
use Rattle.std.proofs.Common.{◌≡◌, ◌≢◌, ◌↔◌, IsTrue, ℕ, zero, suc, ◌+◌, ◌-◌, min, ◌<◌, ◌≤◌, ◌^◌, ◌⊎◌, Bool, true, false, List, [], ◌∷◌, ◌++◌, Option, Some, None, Any, Contains, IfSome, MatchOption, codes, length, get_or, map, position, slice_get, sym, ◌∙◌, ap, subst, refl, ⊎_elim, inl, inr, arith, true≢false}
use Rattle.std.specs.Option.{option_map}
use Rattle.std.specs.List.{position_or_len, sum_by}
use Rattle.std.specs.Str.{bytes_eq}
use Rattle.std.proofs.lemmas.List.{get_or-map, length-map, map-append}
use Rattle.std.proofs.lemmas.List.Elements.{Contains-push_cases}
use Rattle.std.proofs.lemmas.List.Sums.{position_or_len_is}
use Rattle.std.proofs.lemmas.Option.{get_or_from_slice_get, slice_get-get_or, slice_get-map, slice_get_within}
use Rattle.std.proofs.lemmas.Bool.Decides.{nat_tests}
use Rattle.std.proofs.lemmas.Slice.Eq.{bytes_eq-Decides}
use Rattle.syn_term.specs.declared.sorts.Kind.{Kind}
use Rattle.syn_term.specs.declared.sorts.Kind.TheVariants as kind
use Rattle.syn_term.specs.declared.sorts.NamedSort.{NamedSort}
use Rattle.syn_term.specs.declared.sorts.Sort.{Sort}
use Rattle.syn_term.specs.declared.sorts.Sort.TheVariants.{Nat, Named}
use Rattle.syn_term.specs.declared.sorts.Sym.{Sym}
use Rattle.syn_term.specs.Names.{IsName, IsSkolemName}
use Rattle.syn_term.specs.Symbols.{SymbolTable, FitsName, IsTaken, MayAdd, names_of, with_symbol}
use Rattle.syn_term.specs.DeclaredSorts.{HasDistinctSorts, default_size, default_sizes, name_of_sort, size_in, with_sort}
use Rattle.syn_term.proofs.KeyLemmas.{none_named, some_named}
use Rattle.syn_term.proofs.NameLaws.{skolem_is}

-- Nothing has the name, and it is not `nat`.
pub record IsNew (table : SymbolTable) (name : List ℕ) : Type 0 where
  pub free : ¬ (IsTaken table name)
  pub other : name ≢ codes "nat"

-- a name is not `nat`, and the name of a Skolem symbol isn't either
pub name_other : (n : List ℕ) → IsName n → n ≢ codes "nat"
name_other n named e = named.free (0, omega arith, sym e)

pub skolem_other : (n : List ℕ) → IsSkolemName n → n ≢ codes "nat"
skolem_other n named e =
    let first : ◌≡◌ {A = ℕ} 110 33 = ap (λ (bs : List ℕ). get_or bs 0 0) (sym e ∙ skolem_is n named) in
    omega arith

fits_other : (k : Kind) (n : List ℕ) → FitsName k n → n ≢ codes "nat"
fits_other kind.Zero n h = name_other n h
fits_other kind.Succ n h = name_other n h
fits_other kind.Nil n h = name_other n h
fits_other kind.Cons n h = name_other n h
fits_other kind.Tuple n h = name_other n h
fits_other kind.Fun n h = name_other n h
fits_other kind.Rel n h = name_other n h
fits_other kind.Order n h = name_other n h
fits_other kind.Input n h = name_other n h
fits_other kind.Program n h = name_other n h
fits_other kind.Skolem n h = skolem_other n h

-- a symbol that may be added has a new name
pub new_of_added : (t : SymbolTable) (s : Sym) → MayAdd t s → IsNew t s.name
new_of_added t s may = record { free = may.free; other = fits_other s.kind s.name may.fitting.named }

-- and so has what is declared
pub new_of_name : (t : SymbolTable) (n : List ℕ) → IsName n → ¬ (IsTaken t n) → IsNew t n
new_of_name t n named free = record { free = free; other = name_other n named }

-- the names of the sorts rest on the sorts alone
same_names : (t u : SymbolTable) → t.sorts ≡ u.sorts → (a : Sort) → name_of_sort t a ≡ name_of_sort u a
same_names t u e Nat = refl
same_names t u e (Named k) = ap (λ (xs : List NamedSort). option_map (λ (s : NamedSort). s.name) (slice_get xs k)) e

has_name : (xs : List NamedSort) (k : ℕ) (n : List ℕ) (o : Option NamedSort) → slice_get xs k ≡ o → option_map (λ (s : NamedSort). s.name) o ≡ Some n → Any (λ (s : NamedSort). s.name ≡ n) xs
has_name xs k n None at e = absurd (cc)
has_name xs k n (Some s) at e = (k, s, slice_get_within xs k s at, get_or_from_slice_get xs k s s at, cc)

-- no sort has a new name
new_apart : (t : SymbolTable) (a : Sort) (n : List ℕ) → IsNew t n → name_of_sort t a ≡ Some n → ⊥
new_apart t Nat n new e = new.other (cc)
new_apart t (Named k) n new e = new.free (inr (has_name t.sorts k n (slice_get t.sorts k) refl e))

names_more : (t : SymbolTable) (s : Sym) → names_of (with_symbol t s) ≡ names_of t ++ s.name ∷ []
names_more t s = map-append (λ (x : Sym). x.name) t.syms (s ∷ [])

pub apart_symbol : (t : SymbolTable) (s : Sym) → HasDistinctSorts t → IsNew t s.name → HasDistinctSorts (with_symbol t s)
apart_symbol t s h new =
    let same = same_names t (with_symbol t s) refl in
    record {
      sorts = λ a b n at_a at_b. h.sorts a b n (same a ∙ at_a) (same b ∙ at_b);
      symbols = λ a n at has.
          ⊎_elim (λ old. h.symbols a n (same a ∙ at) old)
          (λ e. new_apart t a s.name new (same a ∙ (at ∙ ap Some (sym e))))
          (Contains-push_cases (names_of t) s.name n (subst (λ (ns : List (List ℕ)). Contains ns n) (names_more t s) has));
    }

last_name : (xs : List NamedSort) (y : NamedSort) (k : ℕ) (n : List ℕ) → option_map (λ (s : NamedSort). s.name) (slice_get (xs ++ y ∷ []) k) ≡ Some n → (option_map (λ (s : NamedSort). s.name) (slice_get xs k) ≡ Some n) ⊎ ((k ≡ length xs) × (y.name ≡ n))
last_name [] y zero n e = inr (refl, cc)
last_name [] y (suc k) n e = absurd (cc)
last_name (x ∷ xs) y zero n e = inl e
last_name (x ∷ xs) y (suc k) n e = ⊎_elim (λ old. inl old) (λ last. inr (ap suc last.0, last.1)) (last_name xs y k n e)

old_or_last : (t : SymbolTable) (y : NamedSort) (a : Sort) (n : List ℕ) → name_of_sort (with_sort t y) a ≡ Some n → (name_of_sort t a ≡ Some n) ⊎ ((a ≡ Named (length t.sorts)) × (y.name ≡ n))
old_or_last t y Nat n e = inl e
old_or_last t y (Named k) n e = ⊎_elim (λ old. inl old) (λ last. inr (ap Named last.0, last.1)) (last_name t.sorts y k n e)

pub apart_sort : (t : SymbolTable) (y : NamedSort) → HasDistinctSorts t → IsNew t y.name → HasDistinctSorts (with_sort t y)
apart_sort t y h new =
    let other : (a : Sort) (n : List ℕ) → name_of_sort t a ≡ Some n → y.name ≡ n → ⊥ = λ a n at e. new_apart t a y.name new (at ∙ ap Some (sym e)) in
    record {
      sorts = λ a b n at_a at_b.
          ⊎_elim
          (λ old_a. ⊎_elim (λ old_b. h.sorts a b n old_a old_b) (λ last_b. absurd (other a n old_a last_b.1)) (old_or_last t y b n at_b))
          (λ last_a. ⊎_elim (λ old_b. absurd (other b n old_b last_a.1)) (λ last_b. last_a.0 ∙ sym last_b.0) (old_or_last t y b n at_b))
          (old_or_last t y a n at_a);
      symbols = λ a n at has.
          ⊎_elim (λ old. h.symbols a n old has) (λ last. new.free (inl (subst (λ (m : List ℕ). Contains (names_of t) m) (sym last.1) has))) (old_or_last t y a n at);
    }

-- a new name stays new where something else is added
pub new_beside_symbol : (t : SymbolTable) (s : Sym) (n : List ℕ) → IsNew t n → s.name ≢ n → IsNew (with_symbol t s) n
new_beside_symbol t s n new ne = record {
  free = λ taken.
      ⊎_elim
      (λ has. ⊎_elim (λ old. new.free (inl old)) ne (Contains-push_cases (names_of t) s.name n (subst (λ (ns : List (List ℕ)). Contains ns n) (names_more t s) has)))
      (λ sort. new.free (inr sort))
      taken;
  other = new.other;
}

any_last : (xs : List NamedSort) (y : NamedSort) (n : List ℕ) → Any (λ (s : NamedSort). s.name ≡ n) (xs ++ y ∷ []) → Any (λ (s : NamedSort). s.name ≡ n) xs ⊎ (y.name ≡ n)
any_last xs y n any =
    let at = slice_get-get_or (xs ++ y ∷ []) any.0 any.1 any.2 in
    ⊎_elim (λ old. inl (has_name xs any.0 n (slice_get xs any.0) refl old)) (λ last. inr last.1)
    (last_name xs y any.0 n (ap (option_map (λ (s : NamedSort). s.name)) at ∙ ap Some (ap (λ (s : NamedSort). s.name) any.3 ∙ any.4)))

pub new_beside_sort : (t : SymbolTable) (y : NamedSort) (n : List ℕ) → IsNew t n → y.name ≢ n → IsNew (with_sort t y) n
new_beside_sort t y n new ne = record {
  free = λ taken. ⊎_elim (λ has. new.free (inl has)) (λ sort. ⊎_elim (λ old. new.free (inr old)) ne (any_last t.sorts y n sort)) taken;
  other = new.other;
}

-- the first of some names that is the one looked for
position_at : (p : List ℕ → Bool) (ns : List (List ℕ)) (i : ℕ) → i < length ns → position_or_len p ns ≡ i → position p ns ≡ Some i
position_at p ns i lt e = grind (arith, nat_tests)

pub place_found : (ns : List (List ℕ)) (q : List ℕ) (i : ℕ) → i < length ns → ((k : ℕ) → k < i → bytes_eq q (get_or ns k []) ≡ false) → bytes_eq q (get_or ns i []) ≡ true → Some i ≡ position (bytes_eq q) ns
place_found ns q i lt before here = sym (position_at (bytes_eq q) ns i lt (position_or_len_is (bytes_eq q) ns i [] (omega (arith, lt)) before (λ _. here)))

abbrev sort_names : SymbolTable → List (List ℕ)
sort_names t = map (λ (s : NamedSort). s.name) t.sorts

-- a name with no place is the name of no declared sort, and one with a place is that of one
pub has_place : (xs : List NamedSort) (q : List ℕ) (r : Option ℕ) → r ≡ position (bytes_eq q) (map (λ (s : NamedSort). s.name) xs) → MatchOption r (¬ (Any (λ (s : NamedSort). s.name ≡ q) xs)) (λ _. Any (λ (s : NamedSort). s.name ≡ q) xs)
has_place xs q None e =
    λ any.
    let within : any.0 < length (map (λ (s : NamedSort). s.name) xs) = omega (arith, any.2, length-map xs (λ (s : NamedSort). s.name)) in
    none_named (map (λ (s : NamedSort). s.name) xs) q e
    (any.0, within, get_or-map (λ (s : NamedSort). s.name) xs any.0 any.1 q any.2 ∙ (ap (λ (s : NamedSort). s.name) any.3 ∙ any.4))
has_place xs q (Some k) e =
    has_name xs k q (slice_get xs k) refl (sym (slice_get-map (λ (s : NamedSort). s.name) xs k) ∙ some_named (map (λ (s : NamedSort). s.name) xs) q k e)

-- no sort has a name that is neither `nat` nor among those of the declared sorts
pub no_sort : (t : SymbolTable) (q : List ℕ) → false ≡ bytes_eq q (codes "nat") → None ≡ position (bytes_eq q) (sort_names t) → (a : Sort) → name_of_sort t a ≡ Some q → ⊥
no_sort t q ne none Nat e =
    let same : q ≡ codes "nat" = cc in
    true≢false (sym ((bytes_eq-Decides q (codes "nat")).1 same) ∙ sym ne)
no_sort t q ne none (Named k) e =
    let at : slice_get (sort_names t) k ≡ Some q = slice_get-map (λ (s : NamedSort). s.name) t.sorts k ∙ e in
    none_named (sort_names t) q none (k, slice_get_within (sort_names t) k q at, get_or_from_slice_get (sort_names t) k q q at)

-- and the declared sort at the place of the name has it
pub sort_at_place : (t : SymbolTable) (q : List ℕ) (k : ℕ) → Some k ≡ position (bytes_eq q) (sort_names t) → name_of_sort t (Named k) ≡ Some q
sort_at_place t q k e = sym (slice_get-map (λ (s : NamedSort). s.name) t.sorts k) ∙ some_named (sort_names t) q k e

-- a place among the sorts is a number of 32 bits
pub place_few : {X : Type 0} (es : List X) (sorts : List NamedSort) (r : Option ℕ) → length es ≡ length sorts → length sorts ≤ 2 ^ 32 → IfSome r (λ i. i < length es) → IfSome r (λ i. i < 2 ^ 32)
place_few es sorts None same few within = tt
place_few es sorts (Some i) same few within = omega (arith, within)

-- a sum that stays at its last value is small where it is
small_is : (r n : ℕ) → r ≡ min n (2 ^ 32 - 1) → IsTrue (leb r 64) ↔ (n ≤ 64)
small_is r n is = grind (arith, nat_tests)

pub small_tuple : (t : SymbolTable) (sizes : List ℕ) (sorts : List NamedSort) (parts : List Sort) (r : ℕ) → sizes ≡ default_sizes sorts → sorts ≡ t.sorts → r ≡ min (1 + sum_by (size_in sizes) parts) (2 ^ 32 - 1) → IsTrue (leb r 64) ↔ (1 + sum_by (default_size t) parts ≤ 64)
small_tuple t sizes sorts parts r sized own is =
    let sizes_are : sizes ≡ default_sizes t.sorts = sized ∙ ap default_sizes own in
    small_is r (1 + sum_by (default_size t) parts) (is ∙ ap (λ (ns : List ℕ). min (1 + sum_by (size_in ns) parts) (2 ^ 32 - 1)) sizes_are)
