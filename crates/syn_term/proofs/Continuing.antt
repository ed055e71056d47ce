-- Where a word or a number goes on, and where it doesn't.
use Rattle.std.proofs.Common.{◌≡◌, ℕ, suc, ◌+◌, Bool, true, false, List, [], ◌∷◌, cond, length, get_or, drop, refl, ap, subst, arith}
use Rattle.std.specs.Char.{encode_utf8, is_ascii_digit}
use Rattle.std.proofs.lemmas.Str.{len_utf8_bounds, length-encode}
use Rattle.unicode_ident.specs.Ident.{is_xid_continue}
use Rattle.syn_term.specs.Tokens.{Continues, run_len, digits}

-- no character is counted just where the first doesn't continue a name
pub none_counted : (cs : List ℕ) → (Continues cs → ⊥) → run_len cs ≡ 0
none_counted [] h = refl
none_counted (c ∷ cs) h =
    elim (is_xid_continue c) as (λ z. is_xid_continue c ≡ z → cond z (length (encode_utf8 c) + run_len cs) 0 ≡ 0) [
      | true ↦ (λ e. absurd (h e))
      | false ↦ (λ e. refl)
    ] refl

pub none_continues : (cs : List ℕ) → run_len cs ≡ 0 → Continues cs → ⊥
none_continues [] e h = h
none_continues (c ∷ cs) e h =
    let k = len_utf8_bounds c in
    let n = length-encode c in
    let size : run_len (c ∷ cs) ≡ length (encode_utf8 c) + run_len cs = ap (λ (z : Bool). cond z (length (encode_utf8 c) + run_len cs) 0) h in
    omega (arith, size, e, n, k)

pub false_of : (b : Bool) → (b ≡ true → ⊥) → b ≡ false
false_of true h = absurd (h refl)
false_of false h = refl

-- behind the digits stands none
pub digits_stop : (bs : List ℕ) → is_ascii_digit (get_or (drop (digits bs) bs) 0 0) ≡ false
digits_stop [] = refl
digits_stop (b ∷ bs) =
    elim (is_ascii_digit b) as (λ z. is_ascii_digit b ≡ z → is_ascii_digit (get_or (drop (cond z (1 + digits bs) 0) (b ∷ bs)) 0 0) ≡ false) [
      | true ↦ (λ e. subst (λ (z : ℕ). is_ascii_digit (get_or (drop z (b ∷ bs)) 0 0) ≡ false) (one (digits bs)) (digits_stop bs))
      | false ↦ (λ e. e)
    ] refl
  where
    one : (n : ℕ) → suc n ≡ 1 + n
    one n = omega arith
