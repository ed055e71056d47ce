-- Which words are the digits of a number.
use Rattle.std.proofs.Common.{◌≡◌, ℕ, ◌<◌, ◌≤◌, ◌^◌, List, Result, Ok, Err, decimal, sym, ◌∙◌, subst, arith}
use Rattle.std.specs.Str.{IsUtf8}
use Rattle.std.specs.Str.Parse.{ParsesUnsigned}
use Rattle.std.proofs.lemmas.Str.{IsUtf8-from_ascii}
use Rattle.std.proofs.lemmas.Fmt.{parse-decimal, decimal_injective, IsAscii-decimal}

-- digits are a text
pub digits_text : (bs : List ℕ) (n : ℕ) → n < 2 ^ 32 → bs ≡ decimal n → IsUtf8 bs
digits_text bs n low is = subst IsUtf8 (sym is) (IsUtf8-from_ascii (decimal n) (IsAscii-decimal n (omega arith)))

-- what can't be read is not the digits of a number
pub not_read : {E : Type 0} (bs text : List ℕ) (r : Result ℕ E) (e : E) → ParsesUnsigned 32 10 text r → r ≡ Err e → text ≡ bs → (n : ℕ) → n < 2 ^ 32 → bs ≡ decimal n → ⊥
not_read bs text r e h failed same n low is = let read : r ≡ Ok n = parse-decimal 32 n text r low (omega arith) (same ∙ is) h in cc

-- what is read is the digits of no other number
pub read_only : {E : Type 0} (bs text : List ℕ) (r : Result ℕ E) (m : ℕ) → ParsesUnsigned 32 10 text r → r ≡ Ok m → text ≡ bs → (n : ℕ) → n < 2 ^ 32 → bs ≡ decimal n → n ≡ m
read_only bs text r m h was same n low is = let read : r ≡ Ok n = parse-decimal 32 n text r low (omega arith) (same ∙ is) h in cc

-- a number out of the bounds is no other within them
pub outside : (bs : List ℕ) (m least most : ℕ) → most < 10 ^ 7 → m < 10 ^ 7 → bs ≡ decimal m → (least ≤ m → m ≤ most → ⊥) → (n : ℕ) → least ≤ n → n ≤ most → bs ≡ decimal n → ⊥
outside bs m least most low small is out n lo hi e =
    let same : m ≡ n = decimal_injective m n (omega arith) (omega arith) (sym is ∙ e) in out (omega arith) (omega arith)
