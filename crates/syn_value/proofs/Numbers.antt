-- Which digits are a number that is read.
use Rattle.std.proofs.Common.{◌≡◌, ◌≤◌, ◌<◌, ◌^◌, ℕ, Bool, true, false, not, ◌&&◌, nat_lt, List, Option, Some, None, length, decimal, refl, sym, ap, subst, ◌∙◌, arith}
use Rattle.std.specs.Str.{IsUtf8, bytes_eq}
use Rattle.std.specs.Str.Parse.{digits_value}
use Rattle.std.proofs.lemmas.Fmt.{decimal_is_IsNumeral, decimal_injective, length-decimal-le, IsAscii-decimal}
use Rattle.std.proofs.lemmas.Str.{IsUtf8-from_ascii}
use Rattle.std.proofs.lemmas.Bool.Decides.{nat_tests}
use Rattle.std.proofs.lemmas.Slice.Eq.{bytes_eq-Decides}
use Rattle.syn_value.specs.inner.Machine.{number_in, number_where}

number_yes : (b : Bool) (v : ℕ) → b ≡ true → number_where b v ≡ Some v
number_yes true v e = refl
number_yes false v e = absurd (cc)

number_then : (b : Bool) (v n : ℕ) → number_where b v ≡ Some n → (b ≡ true) × (v ≡ n)
number_then true v n e = (refl, cc)
number_then false v n e = absurd (cc)

both : (a b : Bool) → a ≡ true → b ≡ true → (a && b) ≡ true
both true true e h = refl
both true false e h = h
both false b e h = absurd (cc)

both_first : (a b : Bool) → (a && b) ≡ true → a ≡ true
both_first true b e = refl
both_first false b e = e

both_second : (a b : Bool) → (a && b) ≡ true → b ≡ true
both_second true b e = e
both_second false b e = absurd (cc)

low : (v : ℕ) → v ≤ 1000000 → not (nat_lt 1000000 v) ≡ true
low v le = grind (arith, nat_tests)

low_then : (v : ℕ) → not (nat_lt 1000000 v) ≡ true → v ≤ 1000000
low_then v e = grind (arith, nat_tests)

-- the digits of a number up to the greatest are read as it
pub number_is : (ds : List ℕ) (n : ℕ) → n ≤ 1000000 → ds ≡ decimal n → number_in ds ≡ Some n
number_is ds n le is =
    let v : digits_value 10 ds ≡ n = ap (digits_value 10) is ∙ (decimal_is_IsNumeral n (omega arith)).1 in
    let same : ds ≡ decimal (digits_value 10 ds) = is ∙ ap decimal (sym v) in
    let small : digits_value 10 ds ≤ 1000000 = omega arith in
    number_yes _ (digits_value 10 ds) (both (bytes_eq ds (decimal (digits_value 10 ds))) _ ((bytes_eq-Decides ds (decimal (digits_value 10 ds))).1 same) (low (digits_value 10 ds) small)) ∙ ap Some v

-- and nothing else is
pub number_only : (ds : List ℕ) (n : ℕ) → number_in ds ≡ Some n → (n ≤ 1000000) × (ds ≡ decimal n)
number_only ds n e =
    let h = number_then _ (digits_value 10 ds) n e in
    let small : digits_value 10 ds ≤ 1000000 = low_then (digits_value 10 ds) (both_second (bytes_eq ds (decimal (digits_value 10 ds))) _ h.0) in
    let same : ds ≡ decimal (digits_value 10 ds) = (bytes_eq-Decides ds (decimal (digits_value 10 ds))).0 (both_first (bytes_eq ds (decimal (digits_value 10 ds))) _ h.0) in
    let v : digits_value 10 ds ≡ n = h.1 in
    (omega arith, same ∙ ap decimal v)

none_by : (ds : List ℕ) (o : Option ℕ) → number_in ds ≡ o → ((n : ℕ) → n ≤ 1000000 → ds ≡ decimal n → ⊥) → o ≡ None
none_by ds None e never = refl
none_by ds (Some n) e never = let h = number_only ds n e in absurd (never n h.0 h.1)

pub number_none : (ds : List ℕ) → ((n : ℕ) → n ≤ 1000000 → ds ≡ decimal n → ⊥) → None ≡ number_in ds
number_none ds never = sym (none_by ds (number_in ds) refl never)

-- more digits than seven are no number that is read
pub number_long : (ds : List ℕ) → 7 < length ds → None ≡ number_in ds
number_long ds long = number_none ds (λ n le is.
    let few : length (decimal n) ≤ 7 = length-decimal-le 7 n (omega arith) (omega arith) (omega arith) in
    let same : length ds ≡ length (decimal n) = ap length is in
    omega arith)

-- what is no text is no number, and a text is the number that it is the digits of
pub number_no_text : (ds : List ℕ) → (IsUtf8 ds → ⊥) → None ≡ number_in ds
number_no_text ds never = number_none ds (λ n le is. never (subst IsUtf8 (sym is) (IsUtf8-from_ascii (decimal n) (IsAscii-decimal n (omega arith)))))

pub number_some : (ds text : List ℕ) (n m : ℕ) → text ≡ ds → (n ≤ 1000000) × (text ≡ decimal n) → m ≡ n → Some m ≡ number_in ds
number_some ds text n m same h e = ap Some e ∙ sym (number_is ds n h.0 (sym same ∙ h.1))

-- the digits of a greater number are those of no number up to the greatest
pub too_great : (text : List ℕ) (m : ℕ) → (m < 2 ^ 32) × (text ≡ decimal m) → 1000000 < m → (n : ℕ) → n ≤ 1000000 → text ≡ decimal n → ⊥
too_great text m h great n le is =
    let bound : m < 2 ^ 32 = h.0 in
    let e : m ≡ n = decimal_injective m n (omega arith) (omega arith) (sym h.1 ∙ is) in omega arith
