-- Names of which no two are one, and what none of them is.
use Rattle.std.proofs.Common.{◌≡◌, ◌≢◌, ◌⊎◌, inl, inr, ℕ, zero, suc, ◌+◌, ◌<◌, List, [], ◌∷◌, ◌++◌, Some, All, Contains, get_or, length, map, slice_get, take, drop, refl, sym, ◌∙◌, ap, subst, arith}
use Rattle.std.proofs.lemmas.List.{get_or-map, length-map, map-append, take-append-drop, take_more}
use Rattle.std.proofs.lemmas.List.Elements.{All-map, Contains-push, Contains-push_cases}
use Rattle.std.proofs.lemmas.Option.{get_or_from_slice_get, slice_get-get_or, slice_get_within}
use Rattle.syn_term.proofs.SymbolLaws.{slice_get-append}
use Rattle.syn_form.proofs.Lists.{Contains-cons_cases, Contains-head, Contains-tail, none_in_nil}
use Rattle.syn_model.specs.Heads.{AreDistinct}

abbrev Name : Type 0
Name = List ℕ

-- what stands at a place is there, and what is there stands at a place
at_place : (xs : List Name) (k : ℕ) (x : Name) → slice_get xs k ≡ Some x → Contains xs x
at_place xs k x e = (k, slice_get_within xs k x e, get_or_from_slice_get xs k x x e)

place_of : (xs : List Name) (x : Name) (c : Contains xs x) → slice_get xs c.0 ≡ Some x
place_of xs x c = slice_get-get_or xs c.0 x c.1 ∙ ap Some c.2

pub distinct_none : AreDistinct []
distinct_none i j x e f = absurd (cc)

pub distinct_cons : (x : Name) (xs : List Name) → (Contains xs x → ⊥) → AreDistinct xs → AreDistinct (x ∷ xs)
distinct_cons x xs n d zero zero y e f = refl
distinct_cons x xs n d zero (suc j) y e f = let same : y ≡ x = cc in absurd (n (subst (Contains xs) same (at_place xs j y f)))
distinct_cons x xs n d (suc i) zero y e f = let same : y ≡ x = cc in absurd (n (subst (Contains xs) same (at_place xs i y e)))
distinct_cons x xs n d (suc i) (suc j) y e f = ap suc (d i j y e f)

pub distinct_rest : (x : Name) (xs : List Name) → AreDistinct (x ∷ xs) → AreDistinct xs
distinct_rest x xs d i j y e f = let same : suc i ≡ suc j = d (suc i) (suc j) y e f in omega arith

pub not_behind : (x : Name) (xs : List Name) → AreDistinct (x ∷ xs) → Contains xs x → ⊥
not_behind x xs d c = let same : zero ≡ suc c.0 = d zero (suc c.0) x refl (place_of xs x c) in absurd (omega arith)

pub distinct_front : (xs ys : List Name) → AreDistinct (xs ++ ys) → AreDistinct xs
distinct_front xs ys d i j x e f = d i j x (slice_get-append xs ys i x e) (slice_get-append xs ys j x f)

pub distinct_push : (xs : List Name) (x : Name) → AreDistinct xs → (Contains xs x → ⊥) → AreDistinct (xs ++ x ∷ [])
distinct_push [] x d n = distinct_cons x [] (none_in_nil x) distinct_none
distinct_push (y ∷ ys) x d n = distinct_cons y (ys ++ x ∷ []) (λ c. apart (Contains-push_cases ys x y c)) (distinct_push ys x (distinct_rest y ys d) (λ c. n (Contains-tail y ys x c)))
  where
    apart : Contains ys y ⊎ (x ≡ y) → ⊥
    apart (inl c) = not_behind y ys d c
    apart (inr e) = n (subst (Contains (y ∷ ys)) (sym e) (Contains-head y ys))

pub not_before : (xs : List Name) (x : Name) → AreDistinct (xs ++ x ∷ []) → Contains xs x → ⊥
not_before [] x d c = none_in_nil x c
not_before (y ∷ ys) x d c = at (not_before ys x (distinct_rest y (ys ++ x ∷ []) d)) (Contains-cons_cases y ys x c)
  where
    at : (Contains ys x → ⊥) → (y ≡ x) ⊎ Contains ys x → ⊥
    at rest (inl e) = not_behind y (ys ++ x ∷ []) d (subst (Contains (ys ++ x ∷ [])) (sym e) (Contains-push ys x))
    at rest (inr k) = rest k

distinct_take : (xs : List Name) (n : ℕ) → AreDistinct xs → AreDistinct (take n xs)
distinct_take xs n d = distinct_front (take n xs) (drop n xs) (subst AreDistinct (sym (take-append-drop n xs)) d)

next : (xs : List Name) (i : ℕ) (x : Name) → i < length xs → x ≡ get_or xs i x → take (i + 1) xs ≡ take i xs ++ x ∷ []
next xs i x lt is = take_more xs i x lt ∙ ap (λ (z : Name). take i xs ++ z ∷ []) (sym is)

-- names are seen one after the other: one was seen before, or it is new
pub seen_before : (xs : List Name) (i : ℕ) (x : Name) → i < length xs → x ≡ get_or xs i x → Contains (take i xs) x → AreDistinct xs → ⊥
seen_before xs i x lt is c d = not_before (take i xs) x (subst AreDistinct (next xs i x lt is) (distinct_take xs (i + 1) d)) c

pub one_new : (xs : List Name) (i : ℕ) (x : Name) → i < length xs → x ≡ get_or xs i x → AreDistinct (take i xs) → (Contains (take i xs) x → ⊥) → AreDistinct (take (i + 1) xs)
one_new xs i x lt is d n = subst AreDistinct (sym (next xs i x lt is)) (distinct_push (take i xs) x d n)

module _ {X : Type 0} (g : X → Name) where
  -- none of the names is this one
  pub no_name : (xs : List X) (y : Name) → All (λ x. g x ≢ y) xs → Contains (map g xs) y → ⊥
  no_name xs y h c = All-map (λ (z : Name). z ≢ y) g xs h c.0 y c.1 c.2

  pub all_others : (xs : List X) (y : Name) → (Contains (map g xs) y → ⊥) → All (λ x. g x ≢ y) xs
  all_others xs y n k d lt e = let within : k < length (map g xs) = subst (λ (m : ℕ). k < m) (sym (length-map xs g)) lt in n (k, within, get_or-map g xs k d y lt ∙ e)

  named_next : (xs : List X) (i : ℕ) (x : X) → i < length xs → x ≡ get_or xs i x → map g (take (i + 1) xs) ≡ map g (take i xs) ++ g x ∷ []
  named_next xs i x lt is = ap (map g) (take_more xs i x lt ∙ ap (λ (z : X). take i xs ++ z ∷ []) (sym is)) ∙ map-append g (take i xs) (x ∷ [])

  -- the names of items, one after the other
  pub others_before : (xs : List X) (i : ℕ) (x : X) → i < length xs → x ≡ get_or xs i x → AreDistinct (map g xs) → All (λ p. g p ≢ g x) (take i xs)
  others_before xs i x lt is d =
      let whole : map g (take (i + 1) xs) ++ map g (drop (i + 1) xs) ≡ map g xs = sym (map-append g (take (i + 1) xs) (drop (i + 1) xs)) ∙ ap (map g) (take-append-drop (i + 1) xs) in
      let front = distinct_front (map g (take (i + 1) xs)) (map g (drop (i + 1) xs)) (subst AreDistinct (sym whole) d) in
      all_others (take i xs) (g x) (not_before (map g (take i xs)) (g x) (subst AreDistinct (named_next xs i x lt is) front))

  pub named_new : (xs : List X) (i : ℕ) (x : X) → i < length xs → x ≡ get_or xs i x → AreDistinct (map g (take i xs)) → All (λ p. g p ≢ g x) (take i xs) → AreDistinct (map g (take (i + 1) xs))
  named_new xs i x lt is d h = subst AreDistinct (sym (named_next xs i x lt is)) (distinct_push (map g (take i xs)) (g x) d (no_name (take i xs) (g x) h))
