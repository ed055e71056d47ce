-- The longest front of some bytes that is a text: it is one, no longer one is, and behind a front that is a text the
-- characters go on as those of the rest.
use Rattle.std.proofs.Common.{◌≡◌, ℕ, zero, suc, ◌+◌, ◌-◌, ◌≤◌, true, false, List, ◌++◌, cond, length, take, drop, refl, sym, ◌∙◌, ap, subst, arith, ⊎_elim, IsUtf8, chars, true≢false, take-add}
use Rattle.std.specs.Str.{is_utf8}
use Rattle.std.specs.Str.Lossy.{utf8_valid_len, valid_len_up_to}
use Rattle.std.proofs.lemmas.Str.{IsUtf8-from_is_utf8, is_utf8-from_IsUtf8, IsUtf8-nil, IsUtf8-append, IsUtf8-drop, IsCharBoundary-from_take, chars-append, utf8_valid_len_le}
use Rattle.std.proofs.lemmas.List.{length-take-le, length-drop, take-take, drop-take}
use Rattle.std.proofs.lemmas.Bool.{cases_lt}
use Rattle.syn_term.specs.Tokens.{front_chars}

-- the longest front is a text
front_of : (bs : List ℕ) (n : ℕ) → IsUtf8 (take (valid_len_up_to bs n) bs)
front_of bs zero = IsUtf8-nil
front_of bs (suc n) =
    elim (is_utf8 (take (suc n) bs)) as (λ z. is_utf8 (take (suc n) bs) ≡ z → IsUtf8 (take (cond z (suc n) (valid_len_up_to bs n)) bs)) [
      | true ↦ (λ h. IsUtf8-from_is_utf8 (take (suc n) bs) h)
      | false ↦ (λ h. front_of bs n)
    ] refl

pub front_text : (bs : List ℕ) → IsUtf8 (take (utf8_valid_len bs) bs)
unfolding utf8_valid_len
front_text bs = front_of bs (length bs)

-- and no longer one is
longest_of : (bs : List ℕ) (n m : ℕ) → m ≤ n → IsUtf8 (take m bs) → m ≤ valid_len_up_to bs n
longest_of bs zero m le u = omega arith
longest_of bs (suc n) m le u =
    elim (is_utf8 (take (suc n) bs)) as (λ z. is_utf8 (take (suc n) bs) ≡ z → m ≤ cond z (suc n) (valid_len_up_to bs n)) [
      | true ↦ (λ h. le)
      | false ↦ (λ h. ⊎_elim
          (λ lt. longest_of bs n m (omega arith) u)
          (λ ge. let e : m ≡ suc n = omega arith in absurd (true≢false (sym (is_utf8-from_IsUtf8 (take (suc n) bs) (subst (λ (k : ℕ). IsUtf8 (take k bs)) e u)) ∙ h)))
          (cases_lt m (suc n)))
    ] refl

pub longest : (bs : List ℕ) (m : ℕ) → m ≤ length bs → IsUtf8 (take m bs) → m ≤ utf8_valid_len bs
unfolding utf8_valid_len
longest bs m le u = longest_of bs (length bs) m le u

-- the front of the rest, where a front of the whole is a text
rest_front : (bs : List ℕ) (m : ℕ) → m ≤ length bs → IsUtf8 (take m bs) → utf8_valid_len (drop m bs) ≡ utf8_valid_len bs - m
rest_front bs m le u =
    let v : ℕ = utf8_valid_len bs in
    let w : ℕ = utf8_valid_len (drop m bs) in
    let size : length (drop m bs) ≡ length bs - m = length-drop m bs in
    let within : v ≤ length bs = utf8_valid_len_le bs in
    let inside : w ≤ length (drop m bs) = utf8_valid_len_le (drop m bs) in
    let below : m ≤ v = longest bs m le u in
    let whole : m + (v - m) ≡ v = omega arith in
    let cut : take m (take v bs) ≡ take m bs = take-take m v bs below in
    let long : length (take v bs) ≡ v = length-take-le v bs within in
    let behind : IsUtf8 (drop m (take v bs)) = IsUtf8-drop (take v bs) m (front_text bs) (IsCharBoundary-from_take (take v bs) m (front_text bs) (omega arith) (subst IsUtf8 (sym cut) u)) in
    let same : drop m (take v bs) ≡ take (v - m) (drop m bs) = ap (λ (z : ℕ). drop m (take z bs)) (sym whole) ∙ drop-take m (v - m) bs in
    let least : v - m ≤ w = longest (drop m bs) (v - m) (omega arith) (subst IsUtf8 same behind) in
    let both : IsUtf8 (take (m + w) bs) = subst IsUtf8 (sym (take-add m w bs)) (IsUtf8-append (take m bs) (take w (drop m bs)) u (front_text (drop m bs))) in
    let most : m + w ≤ v = longest bs (m + w) (omega arith) both in
    omega arith

pub front_past : (bs : List ℕ) (m : ℕ) → m ≤ length bs → IsUtf8 (take m bs) → front_chars bs ≡ chars (take m bs) ++ front_chars (drop m bs)
front_past bs m le u =
    let v : ℕ = utf8_valid_len bs in
    let below : m ≤ v = longest bs m le u in
    let whole : v ≡ m + (v - m) = omega arith in
    let front : take v bs ≡ take m bs ++ take (v - m) (drop m bs) = ap (λ (z : ℕ). take z bs) whole ∙ take-add m (v - m) bs in
    ap chars front
    ∙ (chars-append (take m bs) (take (v - m) (drop m bs)) u
    ∙ ap (λ (z : ℕ). chars (take m bs) ++ chars (take z (drop m bs))) (sym (rest_front bs m le u)))
