-- A list of four items, from its items by index.
use Rattle.std.proofs.Common.{◌≡◌, ◌<◌, ◌≤◌, List, [], ◌∷◌, map, length, get_or, arith}

-- what a function gives of four items, where p, q, r and s are what it gives of each
pub map-four : {X Y : Type 0} (f : X → Y) (xs : List X) (a b c d : X) (p q r s : Y) → 4 ≤ length xs → length xs < 5 → a ≡ get_or xs 0 a → b ≡ get_or xs 1 b → c ≡ get_or xs 2 c → d ≡ get_or xs 3 d → p ≡ f a → q ≡ f b → r ≡ f c → s ≡ f d → p ∷ q ∷ r ∷ s ∷ [] ≡ map f xs
map-four f [] a b c d p q r s low high is_a is_b is_c is_d is_p is_q is_r is_s = absurd (omega arith)
map-four f (x ∷ []) a b c d p q r s low high is_a is_b is_c is_d is_p is_q is_r is_s = absurd (omega arith)
map-four f (x ∷ y ∷ []) a b c d p q r s low high is_a is_b is_c is_d is_p is_q is_r is_s = absurd (omega arith)
map-four f (x ∷ y ∷ z ∷ []) a b c d p q r s low high is_a is_b is_c is_d is_p is_q is_r is_s = absurd (omega arith)
map-four f (x ∷ y ∷ z ∷ w ∷ []) a b c d p q r s low high is_a is_b is_c is_d is_p is_q is_r is_s = cc
map-four f (x ∷ y ∷ z ∷ w ∷ v ∷ vs) a b c d p q r s low high is_a is_b is_c is_d is_p is_q is_r is_s = absurd (omega arith)
