-- The digits of a number of any size: they are digits, and where they are few they tell the number.
use Rattle.std.proofs.Common.{◌≡◌, ℕ, zero, suc, ◌+◌, ◌*◌, ◌/◌, ◌%◌, ◌^◌, ◌<◌, ◌≤◌, Bool, true, false, cond, nat_eq, nat_lt, List, [], ◌∷◌, decimal, length, refl, sym, ◌∙◌, ap, subst, arith, ⊎_elim}
use Rattle.std.specs.Fmt.{digits, digits_onto, digit_glyph}
use Rattle.std.specs.Char.{digit_value}
use Rattle.std.specs.Str.Parse.{AllDigits, digits_value}
use Rattle.std.proofs.Math.Nat.{pow-suc}
use Rattle.std.proofs.lemmas.Bool.{cases_lt}
use Rattle.std.proofs.lemmas.Bool.Decides.{nat_tests}
use Rattle.std.proofs.lemmas.Fmt.{decimal_is_IsNumeral_wide}
use Rattle.std.proofs.lemmas.Str.{digit_value_digit}
use Rattle.syn_term.proofs.Passes.{above}

glyph_is : (d : ℕ) → d < 10 → digit_glyph false d ≡ 48 + d
glyph_is d lt = let e : nat_lt d 10 ≡ true = grind (arith, nat_tests) in ap (λ (b : Bool). cond b (48 + d) (87 + d)) e

glyph_digit : (d : ℕ) → d < 10 → digit_value (digit_glyph false d) < 10
glyph_digit d lt =
    let v : digit_value (48 + d) + 48 ≡ 48 + d = digit_value_digit (48 + d) (omega arith, omega arith) in
    subst (λ (z : ℕ). digit_value z < 10) (sym (glyph_is d lt)) (omega arith)

onto_digits : (i n : ℕ) (acc : List ℕ) → AllDigits 10 acc → AllDigits 10 (digits_onto i 10 false n acc)
onto_digits zero n acc h = h
onto_digits (suc i) n acc h =
    let g : ℕ = digit_glyph false (n % 10) in
    let more : AllDigits 10 (g ∷ acc) = (glyph_digit (n % 10) (omega arith), h) in
    elim (nat_eq (n / 10) 0) as (λ b. AllDigits 10 (cond b (g ∷ acc) (digits_onto i 10 false (n / 10) (g ∷ acc)))) [
      | true ↦ more
      | false ↦ onto_digits i (n / 10) (g ∷ acc) more
    ]

digits_are : (base : ℕ) (upper : Bool) (n : ℕ) → digits_onto 64 base upper n [] ≡ digits base upper n
unfolding digits
digits_are base upper n = refl

pub decimal_digits : (n : ℕ) → AllDigits 10 (decimal n)
decimal_digits n = subst (AllDigits 10) (digits_are 10 false n) (onto_digits 64 n [] tt)

positive : (i : ℕ) → 0 < 10 ^ i
positive zero = omega arith
positive (suc i) = let p : 10 ^ suc i ≡ 10 ^ i * 10 = pow-suc 10 i in omega (arith, positive i)

tenth : (i n : ℕ) → 10 ^ suc i ≤ n → 10 ^ i ≤ n / 10
tenth i n h = let p : 10 ^ suc i ≡ 10 ^ i * 10 = pow-suc 10 i in omega arith

onto_long : (i n : ℕ) (acc : List ℕ) → 10 ^ i ≤ n → length (digits_onto i 10 false n acc) ≡ i + length acc
onto_long zero n acc h = omega arith
onto_long (suc i) n acc h =
    let g : ℕ = digit_glyph false (n % 10) in
    let more : 10 ^ i ≤ n / 10 = tenth i n h in
    let some : 0 < 10 ^ i = positive i in
    ap (λ (b : Bool). length (cond b (g ∷ acc) (digits_onto i 10 false (n / 10) (g ∷ acc)))) (above (n / 10) (omega arith))
    ∙ (onto_long i (n / 10) (g ∷ acc) more ∙ omega arith)

decimal_long : (n : ℕ) → 10 ^ 64 ≤ n → length (decimal n) ≡ 64
decimal_long n h = ap length (sym (digits_are 10 false n)) ∙ onto_long 64 n [] h

small : (n : ℕ) → length (decimal n) < 64 → n < 10 ^ 64
small n short = ⊎_elim (λ lt. lt) (λ ge. let long : length (decimal n) ≡ 64 = decimal_long n ge in absurd (omega (arith, long, short))) (cases_lt n (10 ^ 64))

-- two numbers of fewer than 64 digits are one where their digits are
pub one_number : (m n : ℕ) → length (decimal m) < 64 → decimal m ≡ decimal n → m ≡ n
one_number m n short e =
    let other : length (decimal n) < 64 = subst (λ (z : List ℕ). length z < 64) e short in
    sym (decimal_is_IsNumeral_wide m (small m short)).1 ∙ (ap (digits_value 10) e ∙ (decimal_is_IsNumeral_wide n (small n other)).1)
