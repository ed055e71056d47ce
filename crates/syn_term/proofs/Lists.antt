-- When what two lists give, item by item, is one list.
use Rattle.std.proofs.Common.{◌≡◌, ℕ, ◌+◌, ◌<◌, ◌≤◌, List, [], ◌∷◌, map, length, ◌++◌, take, get_or, sym, ◌∙◌, ap, arith}
use Rattle.std.proofs.lemmas.List.{take_more, take_all, map-append, get_or-map, length-map}

module _ {X Y Z : Type 0} (f : X → Z) (g : Y → Z) where
  -- lists of different lengths give different lists
  pub lengths_differ : (xs : List X) (ys : List Y) → (length xs ≡ length ys → ⊥) → map f xs ≡ map g ys → ⊥
  lengths_differ xs ys ne e = ne (sym (length-map xs f) ∙ (ap length e ∙ length-map ys g))

  -- so do lists with items that give different values at one index
  pub items_differ : (xs : List X) (ys : List Y) (i : ℕ) (x : X) (y : Y) → x ≡ get_or xs i x → y ≡ get_or ys i y → i < length xs → i < length ys → (f x ≡ g y → ⊥) → map f xs ≡ map g ys → ⊥
  items_differ xs ys i x y is_x is_y lt_x lt_y ne e =
      let a : get_or (map f xs) i (f x) ≡ f (get_or xs i x) = get_or-map f xs i x (f x) lt_x in
      let b : get_or (map g ys) i (f x) ≡ g (get_or ys i y) = get_or-map g ys i y (f x) lt_y in
      ne (ap f is_x ∙ (sym a ∙ (ap (λ (z : List Z). get_or z i (f x)) e ∙ (b ∙ sym (ap g is_y)))))

  -- the first items give one list, and so does the next
  pub next_same : (xs : List X) (ys : List Y) (i : ℕ) (x : X) (y : Y) → x ≡ get_or xs i x → y ≡ get_or ys i y → i < length xs → i < length ys → f x ≡ g y → map f (take i xs) ≡ map g (take i ys) → map f (take (i + 1) xs) ≡ map g (take (i + 1) ys)
  next_same xs ys i x y is_x is_y lt_x lt_y same e =
      let a : map f (take (i + 1) xs) ≡ map f (take i xs) ++ f x ∷ [] = ap (map f) (take_more xs i x lt_x) ∙ (map-append f (take i xs) (get_or xs i x ∷ []) ∙ ap (λ (z : X). map f (take i xs) ++ f z ∷ []) (sym is_x)) in
      let b : map g (take (i + 1) ys) ≡ map g (take i ys) ++ g y ∷ [] = ap (map g) (take_more ys i y lt_y) ∙ (map-append g (take i ys) (get_or ys i y ∷ []) ∙ ap (λ (z : Y). map g (take i ys) ++ g z ∷ []) (sym is_y)) in
      a ∙ (ap (λ (z : List Z). z ++ f x ∷ []) e ∙ (ap (λ (z : Z). map g (take i ys) ++ z ∷ []) same ∙ sym b))

  -- at the end of the first list all of both was compared
  pub wholes : (xs : List X) (ys : List Y) (i : ℕ) → length xs ≡ length ys → length xs ≤ i → map f (take i xs) ≡ map g (take i ys) → map f xs ≡ map g ys
  wholes xs ys i same end e = ap (map f) (sym (take_all i xs end)) ∙ (e ∙ ap (map g) (take_all i ys (omega arith)))
