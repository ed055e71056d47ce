-- The comment that the scanner counts is the longest front that is UTF-8 and has no line feed.
use Rattle.std.proofs.Common.{◌≡◌, ℕ, zero, suc, ◌+◌, ◌≤◌, true, false, List, [], ◌∷◌, cond, nat_eq, not, length, min, take, refl, sym, ◌∙◌, subst, arith, true≢false, All, IsUtf8}
use Rattle.std.specs.Str.Lossy.{utf8_valid_len}
use Rattle.std.proofs.lemmas.Str.{utf8_valid_len_le}
use Rattle.std.proofs.lemmas.List.{length-take, take-take}
use Rattle.std.proofs.lemmas.List.Sums.{prefix_len-le-length}
use Rattle.std.proofs.lemmas.List.Elements.{All-nil, All-cons, recursion_from_All, All-from_recursion}
use Rattle.syn_term.specs.Tokens.{is_in_line, line_len, comment_len}
use Rattle.syn_term.proofs.Passes.{eq_of, eq_is}
use Rattle.syn_term.proofs.Fronts.{front_text, longest}
use Rattle.syn_lex.specs.Lexing.{IsCommentText}

-- bytes before the first line feed
before_feed : (bs : List ℕ) (m : ℕ) → m ≤ line_len bs → All (λ c. ¬ (c ≡ 10)) (take m bs)
before_feed bs zero le = All-nil (λ c. ¬ (c ≡ 10))
before_feed [] (suc m) le = absurd (omega arith)
before_feed (b ∷ bs) (suc m) le =
    elim (nat_eq b 10) as (λ z. nat_eq b 10 ≡ z → suc m ≤ cond (not z) (1 + line_len bs) 0 → All (λ c. ¬ (c ≡ 10)) (b ∷ take m bs)) [
      | true ↦ (λ e h. absurd (omega arith))
      | false ↦ (λ e h. All-cons (λ c. ¬ (c ≡ 10)) b (take m bs) (λ is. true≢false (sym (eq_is b 10 is) ∙ e)) (before_feed bs m (omega (arith, h))))
    ] refl le

-- a front without one is no longer
until_feed : (bs : List ℕ) (m : ℕ) → m ≤ length bs → All (λ c. ¬ (c ≡ 10)) (take m bs) → m ≤ line_len bs
until_feed bs zero le h = omega arith
until_feed [] (suc m) le h = absurd (omega arith)
until_feed (b ∷ bs) (suc m) le h =
    let p = recursion_from_All (λ (c : ℕ). ¬ (c ≡ 10)) (b ∷ take m bs) h in
    let more : m ≤ line_len bs = until_feed bs m (omega arith) (All-from_recursion (λ (c : ℕ). ¬ (c ≡ 10)) (take m bs) p.1) in
    elim (nat_eq b 10) as (λ z. nat_eq b 10 ≡ z → suc m ≤ cond (not z) (1 + line_len bs) 0) [
      | true ↦ (λ e. absurd (p.0 (eq_of b 10 e)))
      | false ↦ (λ e. omega (arith, more))
    ] refl

-- what is counted lies before the first line feed
in_line : (bs : List ℕ) → (comment_len bs ≤ line_len bs) × (take (comment_len bs) (take (line_len bs) bs) ≡ take (comment_len bs) bs)
unfolding comment_len
in_line bs =
    let size : length (take (line_len bs) bs) ≡ min (line_len bs) (length bs) = length-take (line_len bs) bs in
    let inside : utf8_valid_len (take (line_len bs) bs) ≤ length (take (line_len bs) bs) = utf8_valid_len_le (take (line_len bs) bs) in
    let within : utf8_valid_len (take (line_len bs) bs) ≤ line_len bs = grind (arith) in
    (within, take-take (utf8_valid_len (take (line_len bs) bs)) (line_len bs) bs within)

is_text : (bs : List ℕ) → IsUtf8 (take (comment_len bs) (take (line_len bs) bs))
unfolding comment_len
is_text bs = front_text (take (line_len bs) bs)

pub comment_text : (bs : List ℕ) → IsCommentText (take (comment_len bs) bs)
comment_text bs = let p = in_line bs in (subst IsUtf8 p.1 (is_text bs), before_feed bs (comment_len bs) p.0)

pub comment_within : (bs : List ℕ) → comment_len bs ≤ length bs
comment_within bs =
    let p = in_line bs in
    let lines : line_len bs ≤ length bs = prefix_len-le-length is_in_line bs in
    omega (arith, p.0, lines)

pub comment_longest : (bs : List ℕ) (m : ℕ) → m ≤ length bs → IsCommentText (take m bs) → m ≤ comment_len bs
unfolding comment_len
comment_longest bs m le h =
    let below : m ≤ line_len bs = until_feed bs m le h.1 in
    let size : length (take (line_len bs) bs) ≡ min (line_len bs) (length bs) = length-take (line_len bs) bs in
    let room : m ≤ length (take (line_len bs) bs) = grind (arith) in
    longest (take (line_len bs) bs) m room (subst IsUtf8 (sym (take-take m (line_len bs) bs below)) h.0)
