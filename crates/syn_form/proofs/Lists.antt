-- Which elements lists have that are made of others, and when each element of one list is in another.
use Rattle.std.proofs.Common.{◌≡◌, ◌⊎◌, ℕ, zero, suc, ◌<◌, Bool, true, false, List, [], ◌∷◌, ◌++◌, Contains, All, map, length, get_or, cond, filter, refl, sym, ap, subst, arith}
use Rattle.std.proofs.lemmas.List.Elements.{Contains-append_left, Contains-append_right, Contains-append_cases, Contains-get_or, All-nil, All-head, All-tail, All-append, All-contains}
use Rattle.std.specs.List.{flat_map}
use mathlib.Core.Logic.{inl, inr}

pub none_in_nil : {X : Type 0} (x : X) → Contains [] x → ⊥
none_in_nil x c = let lt : c.0 < 0 = c.1 in absurd (omega arith)

pub Contains-head : {X : Type 0} (x : X) (xs : List X) → Contains (x ∷ xs) x
Contains-head x xs = (0, omega arith, refl)

pub Contains-tail : {X : Type 0} (y : X) (xs : List X) (x : X) → Contains xs x → Contains (y ∷ xs) x
Contains-tail y xs x c = Contains-append_right (y ∷ []) xs x c

cons_at : {X : Type 0} (y : X) (xs : List X) (x : X) (k : ℕ) → k < length (y ∷ xs) → get_or (y ∷ xs) k x ≡ x → (y ≡ x) ⊎ Contains xs x
cons_at y xs x zero lt e = inl e
cons_at y xs x (suc k) lt e = inr (k, omega arith, e)

pub Contains-cons_cases : {X : Type 0} (y : X) (xs : List X) (x : X) → Contains (y ∷ xs) x → (y ≡ x) ⊎ Contains xs x
Contains-cons_cases y xs x c = cons_at y xs x c.0 c.1 c.2

-- what a list has, given that each element of another list is in it, and some element is in that one
pub Contains-along : {X : Type 0} (xs ys : List X) (x : X) → xs ≡ ys → Contains xs x → Contains ys x
Contains-along {X} xs ys x e c = subst (λ (z : List X). Contains z x) e c

module _ {X Y : Type 0} (f : X → List Y) where
  -- what stands in one of the pieces
  abbrev InPiece : List X → Y → Type 0
  InPiece xs y = (x : X) × Contains xs x × Contains (f x) y

  pub Contains-flat_map : (xs : List X) (y : Y) → Contains (flat_map f xs) y → (x : X) × Contains xs x × Contains (f x) y
  Contains-flat_map [] y c = absurd (none_in_nil y c)
  Contains-flat_map (x ∷ xs) y c = go (Contains-append_cases (f x) (flat_map f xs) y c) (Contains-flat_map xs y)
    where
      go : Contains (f x) y ⊎ Contains (flat_map f xs) y → (Contains (flat_map f xs) y → InPiece xs y) → InPiece (x ∷ xs) y
      go (inl h) k = (x, Contains-head x xs, h)
      go (inr h) k = let p = k h in (p.0, Contains-tail x xs p.0 p.1, p.2)

  pub Contains-flat_map_from : (xs : List X) (x : X) (y : Y) → Contains xs x → Contains (f x) y → Contains (flat_map f xs) y
  Contains-flat_map_from [] x y c d = absurd (none_in_nil x c)
  Contains-flat_map_from (z ∷ zs) x y c d = go (Contains-cons_cases z zs x c) (Contains-flat_map_from zs x y)
    where
      go : (z ≡ x) ⊎ Contains zs x → (Contains zs x → Contains (f x) y → Contains (flat_map f zs) y) → Contains (flat_map f (z ∷ zs)) y
      go (inl e) k = Contains-append_left (f z) (flat_map f zs) y (subst (λ (w : X). Contains (f w) y) (sym e) d)
      go (inr h) k = Contains-append_right (f z) (flat_map f zs) y (k h d)

  -- the pieces of a list whose elements are all in another
  pub flat_map_within : (xs ys : List X) → ((x : X) → Contains xs x → Contains ys x) → (y : Y) → Contains (flat_map f xs) y → Contains (flat_map f ys) y
  flat_map_within xs ys sub y c = let p = Contains-flat_map xs y c in Contains-flat_map_from ys p.0 y (sub p.0 p.1) p.2

  pub all_of-map : (xs : List X) → flat_map (λ (ys : List Y). ys) (map f xs) ≡ flat_map f xs
  all_of-map [] = refl
  all_of-map (x ∷ xs) = ap (λ (zs : List Y). f x ++ zs) (all_of-map xs)

-- two lists in a row, the elements of each in another
pub Contains-append_both : {X : Type 0} (xs ys vs ws : List X) → ((x : X) → Contains xs x → Contains vs x) → ((x : X) → Contains ys x → Contains ws x) → (x : X) → Contains (xs ++ ys) x → Contains (vs ++ ws) x
Contains-append_both xs ys vs ws a b x c = go (Contains-append_cases xs ys x c)
  where
    go : Contains xs x ⊎ Contains ys x → Contains (vs ++ ws) x
    go (inl h) = Contains-append_left vs ws x (a x h)
    go (inr h) = Contains-append_right vs ws x (b x h)

-- what a filter leaves was there before
pub Contains-filter : {X : Type 0} (p : X → Bool) (xs : List X) (x : X) → Contains (filter p xs) x → Contains xs x
Contains-filter p [] x c = c
Contains-filter {X} p (y ∷ ys) x c = go (p y) c (Contains-filter p ys x)
  where
    go : (b : Bool) → Contains (cond b (y ∷ filter p ys) (filter p ys)) x → (Contains (filter p ys) x → Contains ys x) → Contains (y ∷ ys) x
    go true h k = again (Contains-cons_cases y (filter p ys) x h) k
      where
        again : (y ≡ x) ⊎ Contains (filter p ys) x → (Contains (filter p ys) x → Contains ys x) → Contains (y ∷ ys) x
        again (inl e) k = (0, omega arith, e)
        again (inr h) k = Contains-tail y ys x (k h)
    go false h k = Contains-tail y ys x (k h)

-- the pieces of each element, where those of one function are among those of another
pub flat_map_weaker : {X Y : Type 0} (f g : X → List Y) (xs : List X) → All (λ x. (y : Y) → Contains (f x) y → Contains (g x) y) xs → (y : Y) → Contains (flat_map f xs) y → Contains (flat_map g xs) y
flat_map_weaker {X} {Y} f g xs sub y c =
    let p = Contains-flat_map f xs y c in
    Contains-flat_map_from g xs p.0 y p.1 (All-contains (λ (x : X). (w : Y) → Contains (f x) w → Contains (g x) w) xs p.0 sub p.1 y p.2)

-- what holds of each element of a list holds of each element of a list that has no others
pub All-within : {X : Type 0} (P : X → Type 0) (xs ys : List X) → ((x : X) → Contains xs x → Contains ys x) → All P ys → All P xs
All-within P xs ys sub h k d lt = All-contains P ys (get_or xs k d) h (sub (get_or xs k d) (Contains-get_or xs k d lt))

pub All-flat_map : {X Y : Type 0} (P : Y → Type 0) (f : X → List Y) (xs : List X) → All (λ x. All P (f x)) xs → All P (flat_map f xs)
All-flat_map P f [] h = All-nil P
All-flat_map {X} P f (x ∷ xs) h = All-append P (f x) (flat_map f xs) (All-head (λ (y : X). All P (f y)) x xs h) (All-flat_map P f xs (All-tail (λ (y : X). All P (f y)) x xs h))
