-- The deepest of several parts, found one part after another and no deeper than a bound.
use Rattle.std.proofs.Common.{◌≡◌, ℕ, ◌+◌, ◌<◌, ◌≤◌, min, max, List, [], ◌∷◌, map, length, ◌++◌, take, get_or, sym, ◌∙◌, ap, arith}
use Rattle.std.proofs.lemmas.List.{take_more, take_all, map-append}
use Rattle.syn_term.specs.Terms.{greatest}
use Rattle.syn_term.proofs.Trees.{greatest-append}

module _ {A : Type 0} (f : A → ℕ) where
  -- one part more
  pub deeper_part : (xs : List A) (i : ℕ) (x : A) (most deepest depth found : ℕ) → i < length xs → x ≡ get_or xs i x → deepest ≡ min (greatest (map f (take i xs))) most → depth ≡ min (f x) most → found ≡ max deepest depth → found ≡ min (greatest (map f (take (i + 1) xs))) most
  deeper_part xs i x most deepest depth found lt is a b e =
      let more : map f (take (i + 1) xs) ≡ map f (take i xs) ++ f x ∷ [] = ap (map f) (take_more xs i x lt) ∙ (map-append f (take i xs) (get_or xs i x ∷ []) ∙ ap (λ (z : A). map f (take i xs) ++ f z ∷ []) (sym is)) in
      let m : greatest (map f (take (i + 1) xs)) ≡ max (greatest (map f (take i xs))) (max (f x) 0) = ap greatest more ∙ greatest-append (map f (take i xs)) (f x ∷ []) in omega arith

  -- at the end all parts were looked at
  pub deepest_part : (all xs : List A) (i most deepest depth levels : ℕ) → xs ≡ all → length xs ≤ i → levels ≡ 1 + greatest (map f all) → deepest ≡ min (greatest (map f (take i xs))) most → depth ≡ min (1 + deepest) most → depth ≡ min levels most
  deepest_part all xs i most deepest depth levels same end is found e =
      let whole : take i xs ≡ all = take_all i xs end ∙ same in
      let g : deepest ≡ min (greatest (map f all)) most = rw whole at found in omega arith
