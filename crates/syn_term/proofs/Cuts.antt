-- How a front that is put together of a mark and two parts is cut into them again.
use Rattle.std.proofs.Common.{◌≡◌, ℕ, zero, suc, ◌+◌, ◌<◌, ◌≤◌, ◌⊎◌, inl, inr, List, [], ◌∷◌, ◌++◌, length, get_or, take, drop, refl, sym, ◌∙◌, ap, arith, take-add}
use Rattle.std.proofs.lemmas.List.{length-append, length-take-le, take-take, take_at, drop_at, drop-take, drop-drop, get_or-take}
use Rattle.std.proofs.lemmas.Bool.Decides.{nat_tests}
use Rattle.syn_term.specs.Tokens.{joined}

pub none_or_some : (n : ℕ) → (n ≡ 0) ⊎ (0 < n)
none_or_some zero = inl refl
none_or_some (suc n) = inr (omega arith)

pub joined_some : (before n : ℕ) → 0 < joined before n → (joined before n ≡ before + n) × (0 < n)
joined_some before n h = (grind (arith, nat_tests), grind (arith, nat_tests))

pub joined_is : (before n : ℕ) → 0 < n → joined before n ≡ before + n
joined_is before n h = grind (arith, nat_tests)

-- the first byte and the front of what follows
pub mark_then : (bs : List ℕ) (n : ℕ) → 0 < length bs → take (1 + n) bs ≡ get_or bs 0 0 ∷ take n (drop 1 bs)
mark_then [] n some = absurd (omega arith)
mark_then (b ∷ bs) n some = take-add 1 n (b ∷ bs)

pub first_of_front : (bs : List ℕ) (m b : ℕ) (xs : List ℕ) → take m bs ≡ b ∷ xs → m ≤ length bs → get_or bs 0 0 ≡ b
first_of_front bs m b xs e le =
    let size : m ≡ suc (length xs) = sym (length-take-le m bs le) ∙ ap length e in
    sym (get_or-take m bs 0 0 (omega (arith, size))) ∙ ap (λ (z : List ℕ). get_or z 0 0) e

two_parts : (xs ys zs : List ℕ) → take (length xs + length ys) zs ≡ xs ++ ys → (take (length xs) zs ≡ xs) × (take (length ys) (drop (length xs) zs) ≡ ys)
two_parts xs ys zs e = (
  sym (take-take (length xs) (length xs + length ys) zs (omega arith)) ∙ (ap (take (length xs)) e ∙ take_at xs ys (length xs) refl),
  sym (drop-take (length xs) (length ys) zs) ∙ (ap (drop (length xs)) e ∙ drop_at xs ys (length xs) refl),
)

pub record Cut (bs : List ℕ) (m b : ℕ) (xs ys : List ℕ) : Type 0 where
  pub size : m ≡ 1 + (length xs + length ys)
  pub first : get_or bs 0 0 ≡ b
  pub front : take (length xs) (drop 1 bs) ≡ xs
  pub rest : take (length ys) (drop (1 + length xs) bs) ≡ ys

pub cut : (bs : List ℕ) (m b : ℕ) (xs ys : List ℕ) → take m bs ≡ b ∷ (xs ++ ys) → m ≤ length bs → Cut bs m b xs ys
cut bs m b xs ys e le =
    let n : length (xs ++ ys) ≡ length xs + length ys = length-append xs ys in
    let all : m ≡ suc (length (xs ++ ys)) = sym (length-take-le m bs le) ∙ ap length e in
    let size : m ≡ 1 + (length xs + length ys) = omega (arith, all, n) in
    let behind : take (length xs + length ys) (drop 1 bs) ≡ xs ++ ys =
    sym (drop-take 1 (length xs + length ys) bs) ∙ (ap (λ (z : ℕ). drop 1 (take z bs)) (sym size) ∙ ap (drop 1) e) in
    let p = two_parts xs ys (drop 1 bs) behind in
    record {
      size = size;
      first = first_of_front bs m b (xs ++ ys) e le;
      front = p.0;
      rest = ap (take (length ys)) (sym (drop-drop (length xs) 1 bs)) ∙ p.1;
    }
