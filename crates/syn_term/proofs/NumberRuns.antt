-- The number at the front of some bytes: what is counted is one, and none at the front is longer.
use Rattle.std.proofs.Common.{◌≡◌, ℕ, zero, suc, ◌+◌, ◌<◌, ◌≤◌, ◌^◌, ◌&&◌, ⊎_elim, Bool, true, false, List, [], ◌∷◌, cond, decimal, nat_eq, nat_lt, length, get_or, take, refl, sym, ◌∙◌, ap, subst, arith, true≢false}
use Rattle.std.specs.Char.{is_ascii_digit}
use Rattle.std.specs.Int.{IsInRange}
use Rattle.std.specs.Str.Parse.{AllDigits, digits_value}
use Rattle.std.proofs.lemmas.List.{length-take-le, get_or-take}
use Rattle.std.proofs.lemmas.List.Sums.{prefix_len-le-length, prefix_len_passes}
use Rattle.std.proofs.lemmas.Str.Parse.{tells_digits, numerals_by_value}
use Rattle.std.proofs.lemmas.Int.Digits.{digits_value-lt}
use Rattle.std.proofs.lemmas.Fmt.{decimal_is_IsNumeral, decimal-digits_value, decimal_nonempty, decimal_digit}
use Rattle.std.proofs.Math.Nat.{pow-le-pow_right}
use Rattle.std.proofs.lemmas.Bool.{cases_lt}
use Rattle.std.proofs.lemmas.Bool.Decides.{nat_tests}
use Rattle.syn_term.specs.Names.{IsNumber}
use Rattle.syn_term.specs.Tokens.{IsDigits, at_most, digits, number_len, counted_len}
use Rattle.syn_term.proofs.WordRuns.{within_limit}

digit_range : (b : ℕ) → is_ascii_digit b ≡ true → IsInRange 48 57 b
digit_range b h = grind (arith, nat_tests)

range_digit : (b : ℕ) → IsInRange 48 57 b → is_ascii_digit b ≡ true
range_digit b h = grind (arith, nat_tests)

-- what is counted are digits
counted_digits : (bs : List ℕ) → AllDigits 10 (take (digits bs) bs)
counted_digits [] = tt
counted_digits (b ∷ bs) =
    elim (is_ascii_digit b) as (λ z. is_ascii_digit b ≡ z → AllDigits 10 (take (cond z (1 + digits bs) 0) (b ∷ bs))) [
      | true ↦ (λ e. subst (λ (z : ℕ). AllDigits 10 (take z (b ∷ bs))) (one (digits bs)) (tells_digits.more b (take (digits bs) bs) (digit_range b e) (counted_digits bs)))
      | false ↦ (λ e. tt)
    ] refl
  where
    one : (n : ℕ) → suc n ≡ 1 + n
    one n = omega arith

-- digits at the front are counted
front_digits : (bs : List ℕ) (m : ℕ) → m ≤ length bs → AllDigits 10 (take m bs) → m ≤ digits bs
front_digits bs zero le h = omega arith
front_digits [] (suc m) le h = absurd (omega arith)
front_digits (b ∷ bs) (suc m) le h =
    let p = tells_digits.parts b (take m bs) h in
    let more : m ≤ digits bs = front_digits bs m (omega arith) p.1 in
    let e : digits (b ∷ bs) ≡ 1 + digits bs = ap (λ (z : Bool). cond z (1 + digits bs) 0) (range_digit b p.0) in
    omega (arith, e, more)

-- seven digits at most, with no zero before others, are a number
seven : (ds : List ℕ) → AllDigits 10 ds → length ds ≤ 7 → digits_value 10 ds < 10 ^ 7
seven ds h few =
    let p : digits_value 10 ds < 10 ^ length ds = digits_value-lt 10 ds h in
    let q : 10 ^ length ds ≤ 10 ^ 7 = pow-le-pow_right (omega arith) few in
    omega (arith, p, q)

written : (ds : List ℕ) → AllDigits 10 ds → 0 < length ds → length ds ≤ 7 → (get_or ds 0 0 ≡ 48 → length ds ≡ 1) → IsDigits ds
written ds h some few lead =
    let small : digits_value 10 ds < 10 ^ 7 = seven ds h few in
    let low : digits_value 10 ds < 2 ^ 64 = omega arith in
    (digits_value 10 ds, small, sym (decimal-digits_value (numerals_by_value _ tells_digits) ds h some lead low))

-- what is counted as a number
pub record Counted (bs : List ℕ) (n : ℕ) (P : List ℕ → Type 0) : Type 0 where
  pub number : P (take n bs)
  pub within : n ≤ length bs
  pub whole : n ≡ digits bs

lead : (b d : ℕ) → (nat_eq b 48 && nat_lt 1 d) ≡ false → 0 < d → b ≡ 48 → d ≡ 1
lead b d h some e = grind (arith, nat_tests)

counted_number : (bs : List ℕ) → 0 < digits bs → digits bs ≤ 7 → (get_or bs 0 0 ≡ 48 → digits bs ≡ 1) → IsDigits (take (digits bs) bs)
counted_number bs some few one =
    let within : digits bs ≤ length bs = prefix_len-le-length is_ascii_digit bs in
    let size : length (take (digits bs) bs) ≡ digits bs = length-take-le (digits bs) bs within in
    written (take (digits bs) bs) (counted_digits bs) (omega (arith, size)) (omega (arith, size))
    (λ e. size ∙ one (sym (get_or-take (digits bs) bs 0 0 some) ∙ e))

pub number_counted : (bs : List ℕ) → 0 < number_len bs → Counted bs (number_len bs) IsDigits
unfolding number_len
number_counted bs some =
    elim (nat_eq (get_or bs 0 0) 48 && nat_lt 1 (digits bs)) as (λ z. (nat_eq (get_or bs 0 0) 48 && nat_lt 1 (digits bs)) ≡ z → 0 < cond z 0 (at_most 7 (digits bs)) → Counted bs (cond z 0 (at_most 7 (digits bs))) IsDigits) [
      | true ↦ (λ e h. absurd (omega arith))
      | false ↦ (λ e h.
          let w = within_limit 7 (digits bs) h in
          let long : 0 < digits bs = omega (arith, w.0) in
          let few : digits bs ≤ 7 = w.1 in
          subst (λ (z : ℕ). Counted bs z IsDigits) (sym w.0) (record {
            number = counted_number bs long few (lead (get_or bs 0 0) (digits bs) e long);
            within = prefix_len-le-length is_ascii_digit bs;
            whole = refl;
          }))
    ] refl some

other : (b : ℕ) → nat_eq b 48 ≡ false → b ≡ 48 → ⊥
other b h e = grind (arith, nat_tests)

no_zero : (ds : List ℕ) (d : IsDigits ds) → (get_or ds 0 0 ≡ 48 → ⊥) → IsNumber ds
no_zero ds d first =
    let some : d.0 ≡ 0 → ⊥ = λ e. first (ap (λ (z : List ℕ). get_or z 0 0) (d.2 ∙ (ap decimal e ∙ decimal_digit 0 (omega arith)))) in
    record { number = d.0; positive = positive d.0 some; small = d.1; is = d.2 }
  where
    positive : (n : ℕ) → (n ≡ 0 → ⊥) → 0 < n
    positive zero f = absurd (f refl)
    positive (suc n) f = omega arith

pub counted_counted : (bs : List ℕ) → 0 < counted_len bs → Counted bs (counted_len bs) IsNumber
unfolding counted_len
counted_counted bs some =
    elim (nat_eq (get_or bs 0 0) 48) as (λ z. nat_eq (get_or bs 0 0) 48 ≡ z → 0 < cond z 0 (at_most 7 (digits bs)) → Counted bs (cond z 0 (at_most 7 (digits bs))) IsNumber) [
      | true ↦ (λ e h. absurd (omega arith))
      | false ↦ (λ e h.
          let w = within_limit 7 (digits bs) h in
          let long : 0 < digits bs = omega (arith, w.0) in
          let few : digits bs ≤ 7 = w.1 in
          let no : get_or bs 0 0 ≡ 48 → ⊥ = other (get_or bs 0 0) e in
          subst (λ (z : ℕ). Counted bs z IsNumber) (sym w.0) (record {
            number = no_zero (take (digits bs) bs) (counted_number bs long few (λ k. absurd (no k))) (λ k. no (sym (get_or-take (digits bs) bs 0 0 long) ∙ k));
            within = prefix_len-le-length is_ascii_digit bs;
            whole = refl;
          }))
    ] refl some

-- a number at the front is part of the digits
pub front_number : (bs : List ℕ) (m : ℕ) → m ≤ length bs → IsDigits (take m bs) → m ≤ digits bs
front_number bs m le d =
    let small : d.0 < 10 ^ 7 = d.1 in
    front_digits bs m le (subst (AllDigits 10) (sym d.2) (decimal_is_IsNumeral d.0 (omega arith)).0.1)

-- and begins with one
pub number_nonempty : (ds : List ℕ) → IsDigits ds → 0 < length ds
number_nonempty ds d =
    let small : d.0 < 10 ^ 7 = d.1 in
    subst (λ (z : List ℕ). 0 < length z) (sym d.2) (decimal_nonempty d.0 (omega arith))

pub number_first : (bs : List ℕ) (m : ℕ) → m ≤ length bs → IsDigits (take m bs) → is_ascii_digit (get_or bs 0 0) ≡ true
number_first bs m le d =
    let some : 0 < m = subst (λ (z : ℕ). 0 < z) (length-take-le m bs le) (number_nonempty (take m bs) d) in
    let in_digits : m ≤ digits bs = front_number bs m le d in
    prefix_len_passes is_ascii_digit bs 0 0 (omega arith)

pub number_digits : (ds : List ℕ) → IsNumber ds → IsDigits ds
number_digits ds n = (n.number, n.small, n.is)

-- the digits end where a byte is none
pub digits_end : (bs : List ℕ) (k : ℕ) → is_ascii_digit (get_or bs k 0) ≡ false → digits bs ≤ k
digits_end bs k h =
    ⊎_elim (λ lt. absurd (true≢false (sym (prefix_len_passes is_ascii_digit bs k 0 lt) ∙ h))) (λ ge. ge) (cases_lt k (digits bs))
