-- Numbers as words: the digits of a number give it back, and a number of at most seven digits is read from them.
use Rattle.std.proofs.Common.{◌≡◌, ℕ, ◌<◌, ◌≤◌, ◌^◌, Bool, true, false, ◌&&◌, List, Option, None, Some, decimal, if◌then◌else◌, nat_lt, refl, sym, ◌∙◌, ap, subst, arith}
use Rattle.std.specs.Str.{IsUtf8, bytes_eq}
use Rattle.std.specs.Str.Parse.{digits_value}
use Rattle.std.proofs.lemmas.Bool.Decides.{nat_tests}
use Rattle.std.proofs.lemmas.Fmt.{IsAscii-decimal, decimal_is_IsNumeral}
use Rattle.std.proofs.lemmas.Slice.Eq.{bytes_eq-Decides}
use Rattle.std.proofs.lemmas.Str.{IsUtf8-from_ascii}
use Rattle.syn_term.specs.declared.tokens.TokenKind.{TokenKind}
use Rattle.syn_term.specs.declared.tokens.TokenKind.TheVariants as kind
use Rattle.syn_term.specs.Tokens.{IsToken}
use Rattle.syn_deriv.specs.inner.Firsts.{number_in, number_of_kind}

abbrev check : List ℕ → ℕ → Option ℕ
check b v = if bytes_eq b (decimal v) && nat_lt v (10 ^ 7) then Some v else None

abbrev pub tested : ℕ → Bool → Bool → Option ℕ
tested n s t = if s && t then Some n else None

module _ (b : List ℕ) (n : ℕ) (is : b ≡ decimal n) (fits : n < 2 ^ 32) where
  value : digits_value 10 b ≡ n
  value = ap (digits_value 10) is ∙ (decimal_is_IsNumeral n (omega arith)).1

  by_test : (t : Bool) → nat_lt n (10 ^ 7) ≡ t → number_in b ≡ tested n true t
  by_test t e = ap (check b) value ∙ (ap (λ (s : Bool). tested n s (nat_lt n (10 ^ 7))) ((bytes_eq-Decides b (decimal n)).1 is) ∙ ap (tested n true) e)

  pub number_some : n < 10 ^ 7 → number_in b ≡ Some n
  number_some small = let e : nat_lt n (10 ^ 7) ≡ true = grind (arith, nat_tests) in by_test true e

  pub number_none : 10 ^ 7 ≤ n → number_in b ≡ None
  number_none large = let e : nat_lt n (10 ^ 7) ≡ false = grind (arith, nat_tests) in by_test false e

-- what is no text is no number
pub no_number : (k : TokenKind) (b : List ℕ) → IsToken k b → (IsUtf8 b → ⊥) → number_of_kind k b ≡ None
no_number kind.Number b is unread = let small : is.0 < 10 ^ 7 = is.1 in absurd (unread (subst IsUtf8 (sym is.2) (IsUtf8-from_ascii (decimal is.0) (IsAscii-decimal is.0 (omega arith)))))
no_number _ b is unread = refl
