-- Lists of what may not be there, item by item.
use Rattle.std.proofs.Common.{◌≡◌, ℕ, zero, suc, ◌+◌, ◌<◌, List, [], ◌∷◌, ◌++◌, Option, None, Some, map, length, take, get_or, refl, sym, ◌∙◌, ap, arith}
use Rattle.std.specs.Option.{option_and_then, option_map}
use Rattle.std.proofs.lemmas.List.{take_more, map-append}
use Rattle.syn_form.specs.Lists.{all_there}

module _ {Y : Type 0} where
  one_more : (a : Y) (os : List (Option Y)) (r : Option (List Y)) (done : List Y) (y : Y) → all_there os ≡ r → option_map (λ rest. a ∷ rest) r ≡ Some done → ((rest : List Y) → r ≡ Some rest → all_there (os ++ Some y ∷ []) ≡ Some (rest ++ y ∷ [])) → option_map (λ rest. a ∷ rest) (all_there (os ++ Some y ∷ [])) ≡ Some (done ++ y ∷ [])
  one_more a os None done y is e h = absurd (cc)
  one_more a os (Some rest) done y is e h =
      let k : a ∷ rest ≡ done = cc in
      ap (option_map (λ (z : List Y). a ∷ z)) (h rest refl) ∙ ap (λ (z : List Y). Some (z ++ y ∷ [])) k

  -- one value more behind those that are there
  pub there_more : (os : List (Option Y)) (done : List Y) (y : Y) → all_there os ≡ Some done → all_there (os ++ Some y ∷ []) ≡ Some (done ++ y ∷ [])
  there_more [] done y e = let k : [] ≡ done = cc in ap (λ (z : List Y). Some (z ++ y ∷ [])) k
  there_more (None ∷ os) done y e = absurd (cc)
  there_more (Some a ∷ os) done y e = one_more a os (all_there os) done y refl e (λ rest is. there_more os rest y is)

module _ {X Y : Type 0} (f : X → Option Y) where
  -- one item more has its value
  pub all_more : (xs : List X) (i : ℕ) (d x : X) (done : List Y) (y : Y) → i < length xs → x ≡ get_or xs i d → all_there (map f (take i xs)) ≡ Some done → f x ≡ Some y → all_there (map f (take (i + 1) xs)) ≡ Some (done ++ y ∷ [])
  all_more xs i d x done y lt is e h =
      let items : map f (take (i + 1) xs) ≡ map f (take i xs) ++ f (get_or xs i d) ∷ [] = ap (map f) (take_more xs i d lt) ∙ map-append f (take i xs) (get_or xs i d ∷ []) in
      let last : f (get_or xs i d) ≡ Some y = ap f (sym is) ∙ h in
      ap all_there (items ∙ ap (λ (z : Option Y). map f (take i xs) ++ z ∷ []) last) ∙ there_more (map f (take i xs)) done y e

  -- an item without a value leaves the whole without one
  pub one_missing : (xs : List X) (i : ℕ) (d : X) → i < length xs → f (get_or xs i d) ≡ None → all_there (map f xs) ≡ None
  one_missing [] i d lt e = absurd (omega arith)
  one_missing (x ∷ xs) zero d lt e = ap (option_and_then (λ (a : Y). option_map (λ rest. a ∷ rest) (all_there (map f xs)))) e
  one_missing (x ∷ xs) (suc i) d lt e = rest_missing (f x) (one_missing xs i d (omega arith) e)
    where
      rest_missing : (o : Option Y) → all_there (map f xs) ≡ None → option_and_then (λ (a : Y). option_map (λ rest. a ∷ rest) (all_there (map f xs))) o ≡ None
      rest_missing None k = refl
      rest_missing (Some a) k = ap (option_map (λ rest. a ∷ rest)) k
