-- The steps of the loop over a line: a blank more, a token more.
use Rattle.std.proofs.Common.{◌≡◌, ℕ, ◌+◌, ◌-◌, ◌<◌, ◌≤◌, List, [], ◌∷◌, ◌++◌, length, drop, ◌∙◌, ap, subst, arith, ⊎_elim}
use Rattle.std.proofs.lemmas.Bool.{cases_lt}
use Rattle.std.proofs.lemmas.List.{drop_all, length-drop}
use Rattle.syn_term.specs.declared.tokens.TokenKind.{TokenKind}
use Rattle.syn_lex.specs.declared.token.Token.{Token}
use Rattle.syn_term.specs.Tokens.{gap, over, token, starts}
use Rattle.syn_lex.specs.Lexing.{Blank, Spans}

blank_more : (line : List ℕ) (at end : ℕ) → Blank line at end → starts (drop end line) ≡ gap → Blank line at (end + 1)
blank_more line at end h g q lo hi =
    ⊎_elim (λ lt. h q lo lt) (λ ge. let e : end ≡ q = omega arith in subst (λ (z : ℕ). starts (drop z line) ≡ gap) e g) (cases_lt q end)

pub spans_blank : (line : List ℕ) (at : ℕ) (ts : List Token) (end : ℕ) → Spans line at ts end → starts (drop end line) ≡ gap → Spans line at ts (end + 1)
spans_blank line at [] end s g = (omega (arith, s.0), blank_more line at end s.1 g)
spans_blank line at (t ∷ ts) end s g = (s.0, s.1, s.2, s.3, spans_blank line t.to ts end s.4 g)

blank_none : (line : List ℕ) (at : ℕ) → Blank line at at
blank_none line at q lo hi = absurd (omega arith)

pub spans_none : (line : List ℕ) → Spans line 0 [] 0
spans_none line = (omega arith, blank_none line 0)

pub spans_token : (line : List ℕ) (at : ℕ) (ts : List Token) (end n : ℕ) (k : TokenKind) → Spans line at ts end → starts (drop end line) ≡ token k n → 0 < n → Spans line at (ts ++ record { kind = k; from = end; to = end + n } ∷ []) (end + n)
spans_token line at [] end n k s e some =
    let m : n ≡ (end + n) - end = omega arith in
    (s.0, s.1, e ∙ ap (token k) m, omega arith, (omega arith, blank_none line (end + n)))
spans_token line at (t ∷ ts) end n k s e some = (s.0, s.1, s.2, s.3, spans_token line t.to ts end n k s.4 e some)

-- where the line is at its end, nothing more begins
pub starts_none : (line : List ℕ) (at : ℕ) → length line ≤ at → starts (drop at line) ≡ over
unfolding starts
starts_none line at h = ap starts (drop_all at line h)

-- what fits into the rest of the line ends within the line
pub room : (line rest : List ℕ) (at n : ℕ) → rest ≡ drop at line → n ≤ length rest → at ≤ length line → at + n ≤ length line
room line rest at n e h within = let m : length rest ≡ length line - at = ap length e ∙ length-drop at line in omega arith

pub room_below : (line rest : List ℕ) (at n : ℕ) → rest ≡ drop at line → n < length rest → at + n < length line
room_below line rest at n e h = let m : length rest ≡ length line - at = ap length e ∙ length-drop at line in omega arith
