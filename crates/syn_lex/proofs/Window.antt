-- A part of the line tells how long a name is: the characters that 68 bytes begin with are all those that the rest of the
-- line begins with, or more than 64 bytes of them.
use Rattle.std.proofs.Common.{◌≡◌, ℕ, ◌+◌, ◌-◌, ◌<◌, ◌≤◌, ◌⊎◌, inl, inr, true, false, List, [], ◌∷◌, ◌++◌, cond, length, min, take, drop, refl, sym, ◌∙◌, ap, subst, arith, ⊎_elim, IsUtf8, chars, append-nil}
use Rattle.std.specs.Char.{encode_utf8, len_utf8}
use Rattle.std.specs.Str.{encode_utf8_all}
use Rattle.std.specs.Str.Lossy.{utf8_valid_len}
use Rattle.std.proofs.lemmas.Str.{IsUtf8-drop, IsUtf8-take, IsCharBoundary-from_take, IsCharBoundary-past_char, chars-append, encodes-chars, length-encode, len_utf8_bounds, utf8_valid_len_le}
use Rattle.std.proofs.lemmas.List.{length-append, length-take, length-take-le, length-drop, take-take, take-append-drop}
use Rattle.std.proofs.lemmas.Bool.{cases_lt}
use Rattle.std.proofs.lemmas.Bool.Decides.{nat_tests}
use Rattle.unicode_ident.specs.Ident.{is_xid_start, is_xid_continue}
use Rattle.syn_term.specs.Tokens.{run_len, word_len, front_chars, at_most}
use Rattle.syn_term.proofs.Fronts.{front_text, longest}

-- characters more change nothing, or the first ones are all of the name
run_in : (ds es : List ℕ) → (run_len (ds ++ es) ≡ run_len ds) ⊎ ((length (encode_utf8_all ds) ≤ run_len ds) × (length (encode_utf8_all ds) ≤ run_len (ds ++ es)))
run_in [] es = inr (omega arith, omega arith)
run_in (d ∷ ds) es =
    let n : length (encode_utf8_all (d ∷ ds)) ≡ length (encode_utf8 d) + length (encode_utf8_all ds) = length-append (encode_utf8 d) (encode_utf8_all ds) in
    elim (is_xid_continue d) as (λ z. (cond z (length (encode_utf8 d) + run_len (ds ++ es)) 0 ≡ cond z (length (encode_utf8 d) + run_len ds) 0) ⊎ ((length (encode_utf8_all (d ∷ ds)) ≤ cond z (length (encode_utf8 d) + run_len ds) 0) × (length (encode_utf8_all (d ∷ ds)) ≤ cond z (length (encode_utf8 d) + run_len (ds ++ es)) 0))) [
      | true ↦ ⊎_elim (λ e. inl (ap (λ (z : ℕ). length (encode_utf8 d) + z) e)) (λ p. inr (omega (arith, n, p.0), omega (arith, n, p.1))) (run_in ds es)
      | false ↦ inl refl
    ]

both_long : (n a b : ℕ) → 64 < n → n ≤ a → n ≤ b → at_most 64 a ≡ at_most 64 b
both_long n a b lt la lb = grind (arith, nat_tests)

long_word : (ds es : List ℕ) → 64 < length (encode_utf8_all ds) → at_most 64 (word_len ds) ≡ at_most 64 (word_len (ds ++ es))
long_word [] es lt = absurd (omega arith)
long_word (d ∷ ds) es lt =
    elim (is_xid_start d) as (λ z. at_most 64 (cond z (run_len (d ∷ ds)) 0) ≡ at_most 64 (cond z (run_len ((d ∷ ds) ++ es)) 0)) [
      | true ↦ ⊎_elim (λ e. ap (at_most 64) (sym e)) (λ p. both_long (length (encode_utf8_all (d ∷ ds))) (run_len (d ∷ ds)) (run_len ((d ∷ ds) ++ es)) lt p.0 p.1) (run_in (d ∷ ds) es)
      | false ↦ refl
    ]

-- what follows the window's text in the longer text begins with a character that the window cuts
beyond : (rest B : List ℕ) (v c : ℕ) (more : List ℕ) → IsUtf8 B → IsUtf8 (drop v B) → v ≤ length B → length B ≤ length rest → take (v + len_utf8 c) B ≡ take (v + len_utf8 c) rest → drop v B ≡ encode_utf8 c ++ more → utf8_valid_len (take 68 rest) ≡ v → 64 < v
beyond rest B v c more ub ut within le same e is =
    let k = len_utf8_bounds c in
    let m : length (drop v B) ≡ length (encode_utf8 c) + length more = ap length e ∙ length-append (encode_utf8 c) more in
    let n : length (drop v B) ≡ length B - v = length-drop v B in
    let j : length (encode_utf8 c) ≡ len_utf8 c = length-encode c in
    let text : IsUtf8 (take (v + len_utf8 c) rest) = subst IsUtf8 same (IsUtf8-take B (v + len_utf8 c) ub (IsCharBoundary-past_char B more v c within ut e)) in
    ⊎_elim
    (λ lt. lt)
    (λ ge. absurd (
    let size : length (take 68 rest) ≡ min 68 (length rest) = length-take 68 rest in
    let fits : v + len_utf8 c ≤ length (take 68 rest) = grind (arith) in
    let cut : IsUtf8 (take (v + len_utf8 c) (take 68 rest)) = subst IsUtf8 (sym (take-take (v + len_utf8 c) 68 rest (omega arith))) text in
    let most : v + len_utf8 c ≤ utf8_valid_len (take 68 rest) = longest (take 68 rest) (v + len_utf8 c) fits cut in
    omega arith))
    (cases_lt 64 v)

split_case : (rest A B : List ℕ) (v : ℕ) (es : List ℕ) → IsUtf8 A → IsUtf8 B → IsUtf8 (drop v B) → length A ≡ v → v ≤ length B → length B ≤ length rest → ((m : ℕ) → m ≤ length B → take m B ≡ take m rest) → utf8_valid_len (take 68 rest) ≡ v → chars B ≡ chars A ++ es → encode_utf8_all es ≡ drop v B → at_most 64 (word_len (chars A)) ≡ at_most 64 (word_len (chars B))
split_case rest A B v [] ua ub ut size within le same is e whole = ap (λ (cs : List ℕ). at_most 64 (word_len cs)) (sym (e ∙ append-nil (chars A)))
split_case rest A B v (c ∷ es) ua ub ut size within le same is e whole =
    let m : length (drop v B) ≡ length (encode_utf8 c) + length (encode_utf8_all es) = ap length (sym whole) ∙ length-append (encode_utf8 c) (encode_utf8_all es) in
    let n : length (drop v B) ≡ length B - v = length-drop v B in
    let j : length (encode_utf8 c) ≡ len_utf8 c = length-encode c in
    let k = len_utf8_bounds c in
    let lt : 64 < v = beyond rest B v c (encode_utf8_all es) ub ut within le (same (v + len_utf8 c) (omega arith)) (sym whole) is in
    let long : 64 < length (encode_utf8_all (chars A)) = subst (λ (z : ℕ). 64 < z) (sym (ap length (encodes-chars A ua) ∙ size)) lt in
    long_word (chars A) (c ∷ es) long ∙ ap (λ (cs : List ℕ). at_most 64 (word_len cs)) (sym e)

window_parts : (rest : List ℕ) (v w : ℕ) → utf8_valid_len (take 68 rest) ≡ v → utf8_valid_len rest ≡ w → v ≤ 68 → v ≤ length rest → w ≤ length rest → IsUtf8 (take v rest) → IsUtf8 (take w rest) → at_most 64 (word_len (chars (take v rest))) ≡ at_most 64 (word_len (chars (take w rest)))
window_parts rest v w is most short within last ua ub =
    let B : List ℕ = take w rest in
    let below : v ≤ w = subst (λ (z : ℕ). v ≤ z) most (longest rest v within ua) in
    let size : length B ≡ w = length-take-le w rest last in
    let front : take v B ≡ take v rest = take-take v w rest below in
    let inside : v ≤ length B = omega arith in
    let ut : IsUtf8 (drop v B) = IsUtf8-drop B v ub (IsCharBoundary-from_take B v ub inside (subst IsUtf8 (sym front) ua)) in
    let whole : B ≡ take v rest ++ drop v B = sym (take-append-drop v B) ∙ ap (λ (z : List ℕ). z ++ drop v B) front in
    let spelled : chars B ≡ chars (take v rest) ++ chars (drop v B) = ap chars whole ∙ chars-append (take v rest) (drop v B) ua in
    split_case rest (take v rest) B v (chars (drop v B)) ua ub ut (length-take-le v rest within) inside (omega arith) (λ m h. take-take m w rest (omega arith)) is spelled (encodes-chars (drop v B) ut)

-- so 68 bytes tell the length of a name, or that it is too long
pub window : (rest : List ℕ) → at_most 64 (word_len (front_chars (take 68 rest))) ≡ at_most 64 (word_len (front_chars rest))
window rest =
    let size : length (take 68 rest) ≡ min 68 (length rest) = length-take 68 rest in
    let a : utf8_valid_len (take 68 rest) ≤ length (take 68 rest) = utf8_valid_len_le (take 68 rest) in
    let b : utf8_valid_len rest ≤ length rest = utf8_valid_len_le rest in
    let short : utf8_valid_len (take 68 rest) ≤ 68 = grind (arith) in
    let within : utf8_valid_len (take 68 rest) ≤ length rest = grind (arith) in
    let same : take (utf8_valid_len (take 68 rest)) (take 68 rest) ≡ take (utf8_valid_len (take 68 rest)) rest = take-take (utf8_valid_len (take 68 rest)) 68 rest short in
    ap (λ (z : List ℕ). at_most 64 (word_len (chars z))) same
    ∙ window_parts rest (utf8_valid_len (take 68 rest)) (utf8_valid_len rest) refl refl short within b (subst IsUtf8 same (front_text (take 68 rest))) (front_text rest)
