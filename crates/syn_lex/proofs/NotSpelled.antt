-- Where a byte of a line begins nothing, no words are spelled by the line.
use Rattle.std.proofs.Common.{◌≡◌, ℕ, zero, suc, ◌+◌, ◌-◌, ◌<◌, ◌≤◌, List, [], ◌∷◌, Result, Ok, Err, IfErr, MatchResult, All, drop, take, sym, ◌∙◌, ap, subst, arith}
use Rattle.std.proofs.lemmas.List.{drop-drop}
use Rattle.std.proofs.lemmas.List.Elements.{All-nil, All-cons}
use Rattle.syn_term.specs.declared.tokens.TokenKind.{TokenKind}
use Rattle.syn_term.specs.Tokens.{gap, bad, token, starts, Word, Spelled, none_left, past_gap, word_then}
use Rattle.syn_term.proofs.BeginsCases.{gap_token, over_token, bad_token, over_gap, bad_gap, over_bad, token_length}
use Rattle.syn_term.proofs.TokenLaws.{is_token}
use Rattle.syn_lex.specs.declared.token.Token.{Token}
use Rattle.syn_lex.specs.declared.token.LexError.{LexError}
use Rattle.syn_lex.specs.declared.token.LexError.TheVariants as error
use Rattle.syn_lex.specs.Lexing.{Blank, Spans, Stuck, Refused, WithoutWords, IsTokenWord}

gap_on : (rest : List ℕ) (ws : List Word) → Spelled rest ws → starts rest ≡ gap → Spelled (drop 1 rest) ws
gap_on _ _ (none_left rest e) g = absurd (over_gap (sym e ∙ g))
gap_on _ _ (past_gap rest ws e s) g = s
gap_on _ _ (word_then rest k n ws e s) g = absurd (gap_token k n (sym g ∙ e))

token_on : (rest : List ℕ) (ws : List Word) (k : TokenKind) (n : ℕ) → Spelled rest ws → starts rest ≡ token k n → (vs : List Word) × Spelled (drop n rest) vs
token_on _ _ k n (none_left rest e) t = absurd (over_token k n (sym e ∙ t))
token_on _ _ k n (past_gap rest ws e s) t = absurd (gap_token k n (sym e ∙ t))
token_on _ _ k n (word_then rest j m ws e s) t =
    let size : m ≡ n = token_length j k m n (sym e ∙ t) in (ws, subst (λ (z : ℕ). Spelled (drop z rest) ws) size s)

bad_none : (rest : List ℕ) (ws : List Word) (n : ℕ) → Spelled rest ws → starts rest ≡ bad n → ⊥
bad_none _ _ n (none_left rest e) b = over_bad n (sym e ∙ b)
bad_none _ _ n (past_gap rest ws e s) b = bad_gap n (sym b ∙ e)
bad_none _ _ n (word_then rest k m ws e s) b = bad_token k n m (sym b ∙ e)

blanks_on : (line : List ℕ) (n at end : ℕ) (ws : List Word) → at + n ≡ end → Blank line at end → Spelled (drop at line) ws → Spelled (drop end line) ws
blanks_on line zero at end ws e blank s = let same : at ≡ end = omega arith in subst (λ (z : ℕ). Spelled (drop z line) ws) same s
blanks_on line (suc n) at end ws e blank s =
    blanks_on line n (at + 1) end ws (omega arith) (λ q lo hi. blank q (omega arith) hi)
    (subst (λ (z : List ℕ). Spelled z ws) (drop-drop 1 at line) (gap_on (drop at line) ws s (blank at (omega arith) (omega arith))))

up_to : (line : List ℕ) (at end : ℕ) (ws : List Word) → at ≤ end → Blank line at end → Spelled (drop at line) ws → Spelled (drop end line) ws
up_to line at end ws le = blanks_on line (end - at) at end ws (omega arith)

behind : (line : List ℕ) (from to : ℕ) → from < to → drop (to - from) (drop from line) ≡ drop to line
behind line from to lt = let same : from + (to - from) ≡ to = omega arith in drop-drop (to - from) from line ∙ ap (λ (z : ℕ). drop z line) same

none_from : (line : List ℕ) (at : ℕ) (ts : List Token) (end n : ℕ) (ws : List Word) → Spans line at ts end → starts (drop end line) ≡ bad n → Spelled (drop at line) ws → ⊥
none_from line at [] end n ws s b h = bad_none (drop end line) ws n (up_to line at end ws s.0 s.1 h) b
none_from line at (t ∷ ts) end n ws s b h =
    let more = token_on (drop t.from line) ws t.kind (t.to - t.from) (up_to line at t.from ws s.0 s.1 h) s.2 in
    none_from line t.to ts end n more.0 s.4 b (subst (λ (z : List ℕ). Spelled z more.0) (behind line t.from t.to s.3) more.1)

stuck_none : (line : List ℕ) (p : ℕ) (ws : List Word) → Stuck line p → Spelled line ws → ⊥
stuck_none line p ws stuck h = none_from line 0 stuck.0 stuck.1 stuck.2 ws stuck.3 stuck.4 h

pub without : (line : List ℕ) (e : LexError) → Refused line e → WithoutWords line e
without line (error.At p) stuck = λ ws h. stuck_none line p ws stuck h
without line error.NoMemory h = tt

-- what follows for an error
pub where_err : {X Y : Type 0} (r : Result X Y) (P : X → Type 0) (E F : Y → Type 0) → ((y : Y) → E y → F y) → MatchResult r P E → IfErr r F
where_err (Ok x) P E F weaker h = tt
where_err (Err y) P E F weaker h = weaker y h

-- each word that is spelled is a token of its kind
pub spelled_tokens : (rest : List ℕ) (ws : List Word) → Spelled rest ws → All IsTokenWord ws
spelled_tokens _ _ (none_left rest e) = All-nil IsTokenWord
spelled_tokens _ _ (past_gap rest ws e s) = spelled_tokens (drop 1 rest) ws s
spelled_tokens _ _ (word_then rest k n ws e s) =
    All-cons IsTokenWord (record { kind = k; bytes = take n rest }) ws (is_token rest k n e).0 (spelled_tokens (drop n rest) ws s)
