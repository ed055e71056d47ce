-- The deepest of several parts, found one part after another and no deeper than a bound.
use Rattle.std.proofs.Common.{◌≡◌, ℕ, ◌+◌, ◌-◌, ◌<◌, ◌≤◌, min, max, List, [], ◌∷◌, map, length, ◌++◌, take, get_or, sym, ◌∙◌, ap, arith}
use Rattle.std.proofs.lemmas.List.{take_more, take_all, map-append}
use Rattle.syn_term.specs.Terms.{greatest}
use Rattle.syn_term.proofs.Trees.{greatest-append}

module _ {A : Type 0} (f : A → ℕ) where
  -- one part more
  pub deeper : (xs : List A) (i : ℕ) (d x : A) (cap deepest depth found : ℕ) → i < length xs → x ≡ get_or xs i d → (cap ≡ 0 → ⊥) → deepest ≡ min (greatest (map f (take i xs))) cap → depth ≡ min (f x) (cap - 1 + 1) → found ≡ max deepest depth → found ≡ min (greatest (map f (take (i + 1) xs))) cap
  deeper xs i d x cap deepest depth found lt is some a b e =
      let more : map f (take (i + 1) xs) ≡ map f (take i xs) ++ f x ∷ [] = ap (map f) (take_more xs i d lt) ∙ (map-append f (take i xs) (get_or xs i d ∷ []) ∙ ap (λ (z : A). map f (take i xs) ++ f z ∷ []) (sym is)) in
      let m : greatest (map f (take (i + 1) xs)) ≡ max (greatest (map f (take i xs))) (max (f x) 0) = ap greatest more ∙ greatest-append (map f (take i xs)) (f x ∷ []) in omega arith

  -- at the end all parts were looked at
  pub deepest_of : (all xs : List A) (i cap deepest depth : ℕ) → xs ≡ all → length xs ≤ i → depth ≡ 1 + greatest (map f all) → deepest ≡ min (greatest (map f (take i xs))) cap → 1 + deepest ≡ min depth (cap + 1)
  deepest_of all xs i cap deepest depth same end is found =
      let whole : take i xs ≡ all = take_all i xs end ∙ same in
      let g : deepest ≡ min (greatest (map f all)) cap = rw whole at found in omega arith
