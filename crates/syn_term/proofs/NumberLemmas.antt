-- Which texts are the digits of a number.
use Rattle.std.proofs.Common.{◌≡◌, ℕ, ◌<◌, ◌^◌, List, Result, Ok, Err, decimal, sym, ◌∙◌, subst, arith}
use Rattle.std.specs.Str.Parse.{ParsesUnsigned}
use Rattle.std.proofs.lemmas.Fmt.{parse-decimal, decimal_injective}
use Rattle.syn_term.specs.Names.{IsNumber}

-- what can't be read is not the digits of a number
pub not_read : {E : Type 0} (bs : List ℕ) (r : Result ℕ E) (e : E) → ParsesUnsigned 32 10 bs r → r ≡ Err e → (n : ℕ) → n < 2 ^ 32 → bs ≡ decimal n → ⊥
not_read bs r e h failed n low is = let read : r ≡ Ok n = parse-decimal 32 n bs r low (omega arith) is h in cc

-- what is read is the digits of no other number
pub read_only : {E : Type 0} (bs : List ℕ) (r : Result ℕ E) (m : ℕ) → ParsesUnsigned 32 10 bs r → r ≡ Ok m → (bs ≡ decimal m → ⊥) → (n : ℕ) → n < 2 ^ 32 → bs ≡ decimal n → ⊥
read_only bs r m h was other n low is =
    let read : r ≡ Ok n = parse-decimal 32 n bs r low (omega arith) is h in
    let same : n ≡ m = cc in
    other (subst (λ (k : ℕ). bs ≡ decimal k) same is)

same_number : (bs : List ℕ) (m : ℕ) → m < 2 ^ 32 → bs ≡ decimal m → (is : IsNumber bs) → m ≡ is.number
same_number bs m low e is =
    let small : is.number < 10 ^ 7 = is.small in
    decimal_injective m is.number (omega arith) (omega arith) (sym e ∙ is.is)

pub number_bounds : (bs : List ℕ) (m : ℕ) → m < 2 ^ 32 → bs ≡ decimal m → IsNumber bs → (0 < m) × (m < 10 ^ 7)
number_bounds bs m low e is =
    let same = same_number bs m low e is in
    let positive : 0 < is.number = is.positive in
    let small : is.number < 10 ^ 7 = is.small in
    (omega arith, omega arith)
