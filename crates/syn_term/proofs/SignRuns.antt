-- The sign at the front of some bytes: what is counted is one, and none at the front is longer.
use Rattle.std.proofs.Common.{◌≡◌, ℕ, zero, suc, ◌<◌, ◌≤◌, ◌&&◌, Bool, true, false, List, [], ◌∷◌, cond, nat_eq, codes, length, get_or, take, refl, sym, ◌∙◌, ap, subst, arith, All, Contains, true≢false}
use Rattle.std.specs.Char.{is_ascii_digit}
use Rattle.std.proofs.lemmas.List.{length-take-le, get_or-take}
use Rattle.std.proofs.lemmas.List.Elements.{All-from_recursion, All-contains}
use Rattle.std.proofs.lemmas.List.Folds.{Any-from_list_any}
use Rattle.syn_term.proofs.Passes.{eq_of, and_parts}
use Rattle.syn_term.specs.Tokens.{signs, is_single_sign, sign_of, sign_len}

there : (bs : List ℕ) (k : ℕ) → 0 < get_or bs k 0 → k < length bs
there [] k h = absurd (omega arith)
there (b ∷ bs) zero h = omega arith
there (b ∷ bs) (suc k) h = let more = there bs k h in omega arith

front_one : (bs : List ℕ) → 0 < length bs → take 1 bs ≡ get_or bs 0 0 ∷ []
front_one [] h = absurd (omega arith)
front_one (a ∷ bs) h = refl

front_two : (bs : List ℕ) → 1 < length bs → take 2 bs ≡ get_or bs 0 0 ∷ get_or bs 1 0 ∷ []
front_two [] h = absurd (omega arith)
front_two (a ∷ []) h = absurd (omega arith)
front_two (a ∷ b ∷ bs) h = refl

front_three : (bs : List ℕ) → 2 < length bs → take 3 bs ≡ get_or bs 0 0 ∷ get_or bs 1 0 ∷ get_or bs 2 0 ∷ []
front_three [] h = absurd (omega arith)
front_three (a ∷ []) h = absurd (omega arith)
front_three (a ∷ b ∷ []) h = absurd (omega arith)
front_three (a ∷ b ∷ c ∷ bs) h = refl

-- a sign of one byte stands in the list at its own place
single_at : (b k : ℕ) → k < 7 → get_or (codes "(),:.|=") k b ≡ b → Contains signs (b ∷ [])
single_at b zero lt e = (0, omega arith, ap (λ (z : ℕ). z ∷ []) e)
single_at b (suc zero) lt e = (1, omega arith, ap (λ (z : ℕ). z ∷ []) e)
single_at b (suc (suc zero)) lt e = (2, omega arith, ap (λ (z : ℕ). z ∷ []) e)
single_at b (suc (suc (suc zero))) lt e = (3, omega arith, ap (λ (z : ℕ). z ∷ []) e)
single_at b (suc (suc (suc (suc zero)))) lt e = (4, omega arith, ap (λ (z : ℕ). z ∷ []) e)
single_at b (suc (suc (suc (suc (suc zero))))) lt e = (5, omega arith, ap (λ (z : ℕ). z ∷ []) e)
single_at b (suc (suc (suc (suc (suc (suc zero)))))) lt e = (6, omega arith, ap (λ (z : ℕ). z ∷ []) e)
single_at b (suc (suc (suc (suc (suc (suc (suc k))))))) lt e = absurd (omega arith)

single_sign : (b : ℕ) → is_single_sign b ≡ true → Contains signs (b ∷ [])
single_sign b h =
    let at = Any-from_list_any (λ sign. nat_eq sign b) (codes "(),:.|=") h in
    let same : at.1 ≡ b = eq_of at.1 b at.4 in
    single_at b at.0 at.2 (subst (λ (z : ℕ). get_or (codes "(),:.|=") at.0 z ≡ z) same at.3)

single_some : (b : ℕ) → is_single_sign b ≡ true → 0 < b
single_some zero h = absurd (true≢false (sym h))
single_some (suc b) h = omega arith

IsSign : List ℕ → ℕ → Type 0
IsSign bs n = Contains signs (take n bs) × (n ≤ length bs)

one_byte : (bs : List ℕ) (b : ℕ) → get_or bs 0 0 ≡ b → is_single_sign b ≡ true → IsSign bs 1
unfolding IsSign
one_byte bs b e h =
    let lt : 0 < length bs = there bs 0 (subst (λ (z : ℕ). 0 < z) (sym e) (single_some b h)) in
    (subst (Contains signs) (sym (front_one bs lt ∙ ap (λ (z : ℕ). z ∷ []) e)) (single_sign b h), omega arith)

dash : (bs : List ℕ) → get_or bs 0 0 ≡ 45 → IsSign bs 1
unfolding IsSign
dash bs e =
    let lt : 0 < length bs = there bs 0 (omega (arith, e)) in
    (subst (Contains signs) (sym (front_one bs lt ∙ ap (λ (z : ℕ). z ∷ []) e)) (7, omega arith, refl), omega arith)

arrow : (bs : List ℕ) → get_or bs 0 0 ≡ 45 → get_or bs 1 0 ≡ 62 → IsSign bs 2
unfolding IsSign
arrow bs e f =
    let lt : 1 < length bs = there bs 1 (omega (arith, f)) in
    let is : take 2 bs ≡ 45 ∷ 62 ∷ [] = front_two bs lt ∙ (ap (λ (z : ℕ). z ∷ get_or bs 1 0 ∷ []) e ∙ ap (λ (z : ℕ). 45 ∷ z ∷ []) f) in
    (subst (Contains signs) (sym is) (8, omega arith, refl), omega arith)

both_ways : (bs : List ℕ) → get_or bs 0 0 ≡ 60 → get_or bs 1 0 ≡ 45 → get_or bs 2 0 ≡ 62 → IsSign bs 3
unfolding IsSign
both_ways bs e f g =
    let lt : 2 < length bs = there bs 2 (omega (arith, g)) in
    let is : take 3 bs ≡ 60 ∷ 45 ∷ 62 ∷ [] = front_three bs lt ∙ (ap (λ (z : ℕ). z ∷ get_or bs 1 0 ∷ get_or bs 2 0 ∷ []) e ∙ (ap (λ (z : ℕ). 60 ∷ z ∷ get_or bs 2 0 ∷ []) f ∙ ap (λ (z : ℕ). 60 ∷ 45 ∷ z ∷ []) g)) in
    (subst (Contains signs) (sym is) (9, omega arith, refl), omega arith)

three_bytes : (bs : List ℕ) (b c d : ℕ) → get_or bs 0 0 ≡ b → get_or bs 1 0 ≡ c → get_or bs 2 0 ≡ d → (nat_eq b 60 && (nat_eq c 45 && nat_eq d 62)) ≡ true → IsSign bs 3
three_bytes bs b c d e f g h =
    let p = and_parts (nat_eq b 60) (nat_eq c 45 && nat_eq d 62) h in
    let q = and_parts (nat_eq c 45) (nat_eq d 62) p.1 in
    both_ways bs (e ∙ eq_of b 60 p.0) (f ∙ eq_of c 45 q.0) (g ∙ eq_of d 62 q.1)

sign_is : (bs : List ℕ) (b c d : ℕ) → get_or bs 0 0 ≡ b → get_or bs 1 0 ≡ c → get_or bs 2 0 ≡ d → 0 < sign_of b c d → IsSign bs (sign_of b c d)
sign_is bs b c d e f g some =
    elim (is_single_sign b) as (λ z. is_single_sign b ≡ z → 0 < cond z 1 (cond (nat_eq b 45) (cond (nat_eq c 62) 2 1) (cond (nat_eq b 60 && (nat_eq c 45 && nat_eq d 62)) 3 0)) → IsSign bs (cond z 1 (cond (nat_eq b 45) (cond (nat_eq c 62) 2 1) (cond (nat_eq b 60 && (nat_eq c 45 && nat_eq d 62)) 3 0)))) [
      | true ↦ (λ h k. one_byte bs b e h)
      | false ↦ (λ h k. elim (nat_eq b 45) as (λ z. nat_eq b 45 ≡ z → 0 < cond z (cond (nat_eq c 62) 2 1) (cond (nat_eq b 60 && (nat_eq c 45 && nat_eq d 62)) 3 0) → IsSign bs (cond z (cond (nat_eq c 62) 2 1) (cond (nat_eq b 60 && (nat_eq c 45 && nat_eq d 62)) 3 0))) [
        | true ↦ (λ i l. elim (nat_eq c 62) as (λ z. nat_eq c 62 ≡ z → IsSign bs (cond z 2 1)) [
          | true ↦ (λ j. arrow bs (e ∙ eq_of b 45 i) (f ∙ eq_of c 62 j))
          | false ↦ (λ j. dash bs (e ∙ eq_of b 45 i))
        ] refl)
        | false ↦ (λ i l. elim (nat_eq b 60 && (nat_eq c 45 && nat_eq d 62)) as (λ z. (nat_eq b 60 && (nat_eq c 45 && nat_eq d 62)) ≡ z → 0 < cond z 3 0 → IsSign bs (cond z 3 0)) [
          | true ↦ (λ j n. three_bytes bs b c d e f g j)
          | false ↦ (λ j n. absurd (omega arith))
        ] refl l)
      ] refl k)
    ] refl some

pub sign_counted : (bs : List ℕ) → 0 < sign_len bs → Contains signs (take (sign_len bs) bs) × (sign_len bs ≤ length bs)
unfolding sign_len IsSign
sign_counted bs some = sign_is bs (get_or bs 0 0) (get_or bs 1 0) (get_or bs 2 0) refl refl refl some

-- a byte that begins a sign begins no number, row variable or Skolem symbol
pub record Mark (b : ℕ) : Type 0 where
  pub digit : is_ascii_digit b ≡ false
  pub row : nat_eq b 63 ≡ false
  pub skolem : nat_eq b 33 ≡ false

-- what a sign at the front says
abbrev pub Longest : List ℕ → Type 0
Longest sign = (bs : List ℕ) (m : ℕ) → m ≤ length bs → take m bs ≡ sign → (0 < m) × (m ≤ sign_len bs) × Mark (get_or bs 0 0)

at_front : (bs sign : List ℕ) (m k : ℕ) → m ≤ length bs → take m bs ≡ sign → k < length sign → get_or bs k 0 ≡ get_or sign k 0
at_front bs sign m k le e lt =
    let size : m ≡ length sign = sym (length-take-le m bs le) ∙ ap length e in
    sym (get_or-take m bs k 0 (omega (arith, size))) ∙ ap (λ (z : List ℕ). get_or z k 0) e

size_is : (bs sign : List ℕ) (m : ℕ) → m ≤ length bs → take m bs ≡ sign → m ≡ length sign
size_is bs sign m le e = sym (length-take-le m bs le) ∙ ap length e

single_longest : (b : ℕ) → is_single_sign b ≡ true → Mark b → Longest (b ∷ [])
unfolding sign_len
single_longest b h mark bs m le e =
    let first : get_or bs 0 0 ≡ b = at_front bs (b ∷ []) m 0 le e (omega arith) in
    let size : m ≡ 1 = size_is bs (b ∷ []) m le e in
    let one : sign_of (get_or bs 0 0) (get_or bs 1 0) (get_or bs 2 0) ≡ 1 =
    ap (λ (z : ℕ). sign_of z (get_or bs 1 0) (get_or bs 2 0)) first ∙ ap (λ (z : Bool). cond z 1 (cond (nat_eq b 45) (cond (nat_eq (get_or bs 1 0) 62) 2 1) (cond (nat_eq b 60 && (nat_eq (get_or bs 1 0) 45 && nat_eq (get_or bs 2 0) 62)) 3 0))) h in
    (omega (arith, size), omega (arith, size, one), subst Mark (sym first) mark)

at_least_one : (c : ℕ) → 1 ≤ cond (nat_eq c 62) 2 1
at_least_one c = elim (nat_eq c 62) as (λ z. 1 ≤ cond z 2 1) [ true ↦ omega arith | false ↦ omega arith ]

dash_longest : Longest (45 ∷ [])
unfolding sign_len
dash_longest bs m le e =
    let first : get_or bs 0 0 ≡ 45 = at_front bs (45 ∷ []) m 0 le e (omega arith) in
    let size : m ≡ 1 = size_is bs (45 ∷ []) m le e in
    let is : sign_of (get_or bs 0 0) (get_or bs 1 0) (get_or bs 2 0) ≡ cond (nat_eq (get_or bs 1 0) 62) 2 1 = ap (λ (z : ℕ). sign_of z (get_or bs 1 0) (get_or bs 2 0)) first in
    let least : 1 ≤ cond (nat_eq (get_or bs 1 0) 62) 2 1 = at_least_one (get_or bs 1 0) in
    (omega (arith, size), omega (arith, size, is, least), subst Mark (sym first) (record { digit = refl; row = refl; skolem = refl }))

arrow_longest : Longest (45 ∷ 62 ∷ [])
unfolding sign_len
arrow_longest bs m le e =
    let first : get_or bs 0 0 ≡ 45 = at_front bs (45 ∷ 62 ∷ []) m 0 le e (omega arith) in
    let second : get_or bs 1 0 ≡ 62 = at_front bs (45 ∷ 62 ∷ []) m 1 le e (omega arith) in
    let size : m ≡ 2 = size_is bs (45 ∷ 62 ∷ []) m le e in
    let is : sign_of (get_or bs 0 0) (get_or bs 1 0) (get_or bs 2 0) ≡ 2 =
    ap (λ (z : ℕ). sign_of z (get_or bs 1 0) (get_or bs 2 0)) first ∙ ap (λ (z : ℕ). sign_of 45 z (get_or bs 2 0)) second in
    (omega (arith, size), omega (arith, size, is), subst Mark (sym first) (record { digit = refl; row = refl; skolem = refl }))

both_longest : Longest (60 ∷ 45 ∷ 62 ∷ [])
unfolding sign_len
both_longest bs m le e =
    let first : get_or bs 0 0 ≡ 60 = at_front bs (60 ∷ 45 ∷ 62 ∷ []) m 0 le e (omega arith) in
    let second : get_or bs 1 0 ≡ 45 = at_front bs (60 ∷ 45 ∷ 62 ∷ []) m 1 le e (omega arith) in
    let third : get_or bs 2 0 ≡ 62 = at_front bs (60 ∷ 45 ∷ 62 ∷ []) m 2 le e (omega arith) in
    let size : m ≡ 3 = size_is bs (60 ∷ 45 ∷ 62 ∷ []) m le e in
    let is : sign_of (get_or bs 0 0) (get_or bs 1 0) (get_or bs 2 0) ≡ 3 =
    ap (λ (z : ℕ). sign_of z (get_or bs 1 0) (get_or bs 2 0)) first ∙ (ap (λ (z : ℕ). sign_of 60 z (get_or bs 2 0)) second ∙ ap (λ (z : ℕ). sign_of 60 45 z) third) in
    (omega (arith, size), omega (arith, size, is), subst Mark (sym first) (record { digit = refl; row = refl; skolem = refl }))

plain : (b : ℕ) → is_single_sign b ≡ true → is_ascii_digit b ≡ false → nat_eq b 63 ≡ false → nat_eq b 33 ≡ false → Longest (b ∷ [])
plain b h digit row skolem = single_longest b h (record { digit = digit; row = row; skolem = skolem })

all_longest : All Longest signs
all_longest =
    All-from_recursion Longest signs (
      plain 40 refl refl refl refl,
      (
        plain 41 refl refl refl refl,
        (
          plain 44 refl refl refl refl,
          (
            plain 58 refl refl refl refl,
            (
              plain 46 refl refl refl refl,
              (
                plain 124 refl refl refl refl,
                (
                  plain 61 refl refl refl refl,
                  (
                    dash_longest,
                    (
                      arrow_longest,
                      (both_longest, tt),
                    ),
                  ),
                ),
              ),
            ),
          ),
        ),
      ),
    )

pub sign_longest : (bs : List ℕ) (m : ℕ) → m ≤ length bs → Contains signs (take m bs) → (0 < m) × (m ≤ sign_len bs) × Mark (get_or bs 0 0)
sign_longest bs m le h = All-contains Longest signs (take m bs) all_longest h bs m le refl
