-- Terms made one after another, each from a term of a list: what is made so far, and how many nodes.
use Rattle.std.proofs.Common.{◌≡◌, ℕ, ◌+◌, ◌<◌, ◌≤◌, List, [], ◌∷◌, ◌++◌, All, map, sum, take, length, get_or, sym, ◌∙◌, ap, subst, arith}
use Rattle.std.proofs.lemmas.List.{take_more, map-append}
use Rattle.std.proofs.lemmas.List.Sums.{sum-map, sum_by_more, sum_by_more_le}
use Rattle.std.proofs.lemmas.List.Elements.{All-nil, All-cons, All-append, All-get_or}
use Rattle.syn_term.specs.Bank.{Kept, Belongs, Extends, Belongs-extends}
use Rattle.syn_term.specs.Terms.{TermTree}

module _ {X : Type 0} (n : X → ℕ) where
  -- the sum so far and the next item
  sum_more : (xs : List X) (i : ℕ) (d x : X) → i < length xs → x ≡ get_or xs i d → sum (map n (take (i + 1) xs)) ≡ sum (map n (take i xs)) + n x
  sum_more xs i d x lt is = sum-map n (take (i + 1) xs) ∙ (sum_by_more n xs i d lt ∙ (ap (λ m. m + n (get_or xs i d)) (sym (sum-map n (take i xs))) ∙ ap (λ (z : X). sum (map n (take i xs)) + n z) (sym is)))

  sum_within : (xs : List X) (i : ℕ) (d x : X) → i < length xs → x ≡ get_or xs i d → sum (map n (take i xs)) + n x ≤ sum (map n xs)
  sum_within xs i d x lt is = let h = sum_by_more_le n xs i d lt in let a = sum-map n (take i xs) in let b = sum-map n xs in let e : n x ≡ n (get_or xs i d) = ap n is in omega arith

  -- one item more, and no more than all
  pub count_more : (xs : List X) (i : ℕ) (d x : X) (a b c : ℕ) → i < length xs → x ≡ get_or xs i d → b ≤ a + sum (map n (take i xs)) → c ≤ b + n x → c ≤ a + sum (map n (take (i + 1) xs))
  count_more xs i d x a b c lt is h k = let e = sum_more xs i d x lt is in omega arith

  pub count_within : (xs : List X) (i : ℕ) (d x : X) (a b c : ℕ) → i < length xs → x ≡ get_or xs i d → b ≤ a + sum (map n (take i xs)) → c ≤ b + n x → c ≤ a + sum (map n xs)
  count_within xs i d x a b c lt is h k = let m = sum_within xs i d x lt is in omega arith

  pub no_more_than_all : (xs : List X) (i : ℕ) (d x : X) → i < length xs → x ≡ get_or xs i d → n x ≤ sum (map n xs)
  no_more_than_all xs i d x lt is = let m = sum_within xs i d x lt is in omega arith

-- what is made so far, left bare
pub made_more : {X : Type 0} → (b : X → X) (g : X → X) (xs done new : List X) (i : ℕ) (d x r : X) → i < length xs → x ≡ get_or xs i d → map b done ≡ map b (map g (take i xs)) → b r ≡ b (g x) → new ≡ done ++ r ∷ [] → map b new ≡ map b (map g (take (i + 1) xs))
made_more {X} b g xs done new i d x r lt is h e n =
    let m : map b new ≡ map b done ++ b r ∷ [] = ap (map b) n ∙ map-append b done (r ∷ []) in
    let k : map b (map g (take (i + 1) xs)) ≡ map b (map g (take i xs)) ++ b (g x) ∷ [] =
    ap (λ (zs : List X). map b (map g zs)) (take_more xs i d lt) ∙ (ap (map b) (map-append g (take i xs) (get_or xs i d ∷ [])) ∙ (map-append b (map g (take i xs)) (g (get_or xs i d) ∷ []) ∙ ap (λ (z : X). map b (map g (take i xs)) ++ b (g z) ∷ []) (sym is))) in
    m ∙ (ap (λ (zs : List X). zs ++ b r ∷ []) h ∙ (ap (λ (z : X). map b (map g (take i xs)) ++ z ∷ []) e ∙ sym k))

-- what belongs to the bank so far, after one call more
pub belongs_more : (a b : Kept) (done new : List TermTree) (r : TermTree) → Extends a b → All (Belongs a) done → Belongs b r → new ≡ done ++ r ∷ [] → All (Belongs b) new
belongs_more a b done new r e h k n =
    let still : All (Belongs b) done = λ j d lt. Belongs-extends a b (get_or done j d) e (h j d lt) in
    subst (All (Belongs b)) (sym n) (All-append (Belongs b) done (r ∷ []) still (All-cons (Belongs b) r [] k (All-nil (Belongs b))))

pub item_of : {X : Type 0} → (P : X → Type 0) (xs : List X) (i : ℕ) (d x : X) → i < length xs → x ≡ get_or xs i d → All P xs → P x
item_of P xs i d x lt is h = subst P (sym is) (All-get_or P xs i d lt h)
