-- The tokens of a line, by their places, are the words that the line is made of.
use Rattle.std.proofs.Common.{◌≡◌, ℕ, zero, suc, ◌+◌, ◌-◌, ◌<◌, ◌≤◌, List, [], ◌∷◌, Result, Ok, Err, IfOk, MatchResult, drop, sym, ◌∙◌, ap, subst, arith}
use Rattle.std.proofs.lemmas.List.{drop-drop}
use Rattle.syn_lex.specs.declared.token.Token.{Token}
use Rattle.syn_term.specs.Tokens.{over, starts, Word, Spelled, none_left, past_gap, word_then}
use Rattle.syn_lex.specs.Lexing.{Blank, Spans, Lexed, words_of}

-- what is spelled behind blanks is spelled from before them on
past_blanks : (line : List ℕ) (n at end : ℕ) (words : List Word) → at + n ≡ end → Blank line at end → Spelled (drop end line) words → Spelled (drop at line) words
past_blanks line zero at end words e blank s = let same : end ≡ at = omega arith in subst (λ (z : ℕ). Spelled (drop z line) words) same s
past_blanks line (suc n) at end words e blank s =
    let more : Spelled (drop (at + 1) line) words = past_blanks line n (at + 1) end words (omega arith) (λ q lo hi. blank q (omega arith) hi) s in
    past_gap (drop at line) words (blank at (omega arith) (omega arith)) (subst (λ (z : List ℕ). Spelled z words) (sym (drop-drop 1 at line)) more)

up_to : (line : List ℕ) (at end : ℕ) (words : List Word) → at ≤ end → Blank line at end → Spelled (drop end line) words → Spelled (drop at line) words
up_to line at end words le = past_blanks line (end - at) at end words (omega arith)

behind : (line : List ℕ) (from to : ℕ) → from < to → drop to line ≡ drop (to - from) (drop from line)
behind line from to lt = let same : to ≡ from + (to - from) = omega arith in ap (λ (z : ℕ). drop z line) same ∙ sym (drop-drop (to - from) from line)

spelled : (line : List ℕ) (at : ℕ) (ts : List Token) (end : ℕ) → Spans line at ts end → starts (drop end line) ≡ over → Spelled (drop at line) (words_of line ts)
spelled line at [] end s e = up_to line at end [] s.0 s.1 (none_left (drop end line) e)
spelled line at (t ∷ ts) end s e =
    let more : Spelled (drop (t.to - t.from) (drop t.from line)) (words_of line ts) = subst (λ (z : List ℕ). Spelled z (words_of line ts)) (behind line t.from t.to s.3) (spelled line t.to ts end s.4 e) in
    up_to line at t.from (words_of line (t ∷ ts)) s.0 s.1 (word_then (drop t.from line) t.kind (t.to - t.from) (words_of line ts) s.2 more)

pub lexed_spelled : (line : List ℕ) (ts : List Token) → Lexed line ts → Spelled line (words_of line ts)
lexed_spelled line ts h = spelled line 0 ts h.0 h.1 h.2

-- what follows for the tokens of an answer
pub where_ok : {X Y : Type 0} (r : Result X Y) (P Q : X → Type 0) (E : Y → Type 0) → ((x : X) → P x → Q x) → MatchResult r P E → IfOk r Q
where_ok (Ok x) P Q E weaker h = weaker x h
where_ok (Err y) P Q E weaker h = tt

-- the words that are lent of a line's tokens are those that the text is made of
pub lent_spelled : (line text : List ℕ) (found lent : List Token) (words : List Word) → line ≡ text → lent ≡ found → words ≡ words_of line lent → Spelled line (words_of line found) → Spelled text words
lent_spelled line text found lent words same whole is h =
    subst (λ (z : List ℕ). Spelled z words) same (subst (Spelled line) (sym (is ∙ ap (words_of line) whole)) h)
