-- A text is cut in one way alone: at the first such byte, and so into lines.
use Rattle.std.proofs.Common.{◌≡◌, ℕ, ◌++◌, List, [], ◌∷◌, All, refl, sym, ◌∙◌, subst, append_assoc}
use Rattle.std.specs.List.{flat_map}
use Rattle.std.proofs.lemmas.List.Elements.{All-head, All-tail}
use Rattle.syn_lex.specs.TextLines.{IsCut, OneCut, Without, with_feed}

-- a text with the mark is not one without
pub no_mark : (xs r : List ℕ) (b : ℕ) → All (λ c. c ≡ b → ⊥) (xs ++ b ∷ r) → ⊥
no_mark [] r b h = All-head (λ c. c ≡ b → ⊥) b r h refl
no_mark (x ∷ xs) r b h = no_mark xs r b (All-tail (λ c. c ≡ b → ⊥) x (xs ++ b ∷ r) h)

-- the part before the first mark is one alone, and so is what follows
pub cut_same : (xs ys r s : List ℕ) (b : ℕ) → All (λ c. c ≡ b → ⊥) xs → All (λ c. c ≡ b → ⊥) ys → xs ++ b ∷ r ≡ ys ++ b ∷ s → (xs ≡ ys) × (r ≡ s)
cut_same [] [] r s b hx hy e = (refl, cc)
cut_same [] (y ∷ ys) r s b hx hy e = let h : y ≡ b = cc in absurd (All-head (λ c. c ≡ b → ⊥) y ys hy h)
cut_same (x ∷ xs) [] r s b hx hy e = let h : x ≡ b = cc in absurd (All-head (λ c. c ≡ b → ⊥) x xs hx h)
cut_same (x ∷ xs) (y ∷ ys) r s b hx hy e =
    let h : x ≡ y = cc in
    let t : xs ++ b ∷ r ≡ ys ++ b ∷ s = cc in
    let p = cut_same xs ys r s b (All-tail (λ c. c ≡ b → ⊥) x xs hx) (All-tail (λ c. c ≡ b → ⊥) y ys hy) t in
    let q : xs ≡ ys = p.0 in (cc, p.1)

lines_once : (ls ms : List (List ℕ)) (r q : List ℕ) → All (Without 10) ls → All (Without 10) ms → Without 10 r → Without 10 q → flat_map with_feed ls ++ r ≡ flat_map with_feed ms ++ q → (ls ≡ ms) × (r ≡ q)
lines_once [] [] r q hl hm hr hq e = (refl, e)
lines_once [] (m ∷ ms) r q hl hm hr hq e =
    let f : r ≡ m ++ 10 ∷ (flat_map with_feed ms ++ q) = e ∙ (append_assoc (with_feed m) (flat_map with_feed ms) q ∙ append_assoc m (10 ∷ []) (flat_map with_feed ms ++ q)) in
    absurd (no_mark m (flat_map with_feed ms ++ q) 10 (subst (Without 10) f hr))
lines_once (l ∷ ls) [] r q hl hm hr hq e =
    let f : q ≡ l ++ 10 ∷ (flat_map with_feed ls ++ r) = sym e ∙ (append_assoc (with_feed l) (flat_map with_feed ls) r ∙ append_assoc l (10 ∷ []) (flat_map with_feed ls ++ r)) in
    absurd (no_mark l (flat_map with_feed ls ++ r) 10 (subst (Without 10) f hq))
lines_once (l ∷ ls) (m ∷ ms) r q hl hm hr hq e =
    let a : flat_map with_feed (l ∷ ls) ++ r ≡ l ++ 10 ∷ (flat_map with_feed ls ++ r) = append_assoc (with_feed l) (flat_map with_feed ls) r ∙ append_assoc l (10 ∷ []) (flat_map with_feed ls ++ r) in
    let b : flat_map with_feed (m ∷ ms) ++ q ≡ m ++ 10 ∷ (flat_map with_feed ms ++ q) = append_assoc (with_feed m) (flat_map with_feed ms) q ∙ append_assoc m (10 ∷ []) (flat_map with_feed ms ++ q) in
    let p = cut_same l m (flat_map with_feed ls ++ r) (flat_map with_feed ms ++ q) 10 (All-head (Without 10) l ls hl) (All-head (Without 10) m ms hm) (sym a ∙ (e ∙ b)) in
    let t = lines_once ls ms r q (All-tail (Without 10) l ls hl) (All-tail (Without 10) m ms hm) hr hq p.1 in
    let h : l ≡ m = p.0 in
    let u : ls ≡ ms = t.0 in (cc, t.1)

-- bytes have at most one cut
pub cut_once : (bytes : List ℕ) (ls ms : List (List ℕ)) (r q : List ℕ) → IsCut bytes ls r → IsCut bytes ms q → (ls ≡ ms) × (r ≡ q)
cut_once bytes ls ms r q c d = lines_once ls ms r q c.clean d.clean c.open_clean d.open_clean (c.is ∙ sym d.is)

pub one_cut : (bytes : List ℕ) → OneCut bytes
one_cut bytes = cut_once bytes
