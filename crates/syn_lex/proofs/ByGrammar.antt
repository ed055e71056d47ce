-- What the scanner answers, said by the grammar of tokens alone.
use Rattle.std.proofs.Common.{◌≡◌, ℕ, ◌+◌, ◌-◌, ◌<◌, ◌≤◌, ◌⊎◌, inl, inr, Bool, cond, List, [], ◌∷◌, Result, Ok, Err, MatchResult, length, get_or, take, drop, refl, sym, ◌∙◌, ap, subst, arith, true≢false, All}
use Rattle.std.proofs.lemmas.List.{length-drop, get_or-drop, take_all}
use Rattle.std.proofs.lemmas.List.Elements.{All-nil, All-cons}
use Rattle.syn_term.specs.Tokens.{over, bad, token, starts, is_blank, comment, comment_len, BeginsNothing}
use Rattle.syn_term.proofs.BeginsCases.{over_token, bad_token, over_gap, bad_gap, over_bad, bad_same}
use Rattle.syn_term.proofs.TokenLaws.{is_longest}
use Rattle.syn_term.proofs.WholeTokens.{is_whole}
use Rattle.syn_term.proofs.Passes.{eq_is}
use Rattle.syn_term.proofs.Accounts.{whole_kinded, token_starts, blank_starts}
use Rattle.syn_term.proofs.StartCases.{StartCase, at_end, at_blank, at_comment, at_token, at_nothing, start_case, comment_over, comment_bad, gap_blank}
use Rattle.syn_lex.specs.declared.token.Token.{Token}
use Rattle.syn_lex.specs.declared.token.LexError.{LexError}
use Rattle.syn_lex.specs.declared.token.LexError.TheVariants as error
use Rattle.syn_lex.specs.Lexing.{Blank, Spans, Lexed, Stuck, Refused, IsLongestToken, Blanks, Stand, IsCommentText, IsComment, IsBrokenComment, IsTokens, IsFirstBadByte, Faulty, IsAccount}
use Rattle.syn_lex.proofs.Comments.{comment_text, comment_longest, comment_within}
use Rattle.syn_lex.proofs.TokenSteps.{starts_none}

blanks : (line : List ℕ) (at end : ℕ) → Blank line at end → Blanks line at end
blanks line at end h q lo hi =
    let n : q + 0 ≡ q = omega arith in
    let same : get_or (drop q line) 0 0 ≡ get_or line q 0 = get_or-drop q line 0 0 ∙ ap (λ (z : ℕ). get_or line z 0) n in
    ap is_blank (sym same) ∙ gap_blank (drop q line) (h q lo hi)

longest_token : (line : List ℕ) (t : Token) → starts (drop t.from line) ≡ token t.kind (t.to - t.from) → t.from < t.to → IsLongestToken line t
longest_token line t e some =
    let w = is_whole (drop t.from line) t.kind (t.to - t.from) e in
    let n : length (drop t.from line) ≡ length line - t.from = length-drop t.from line in
    let room : t.to - t.from ≤ length (drop t.from line) = w.within in
    record {
      some = some;
      within = omega (arith, n, room);
      token = w.token;
      whole = w.whole;
      longest = is_longest (drop t.from line) t.kind (t.to - t.from) e;
    }

stand : (line : List ℕ) (at : ℕ) (ts : List Token) (end : ℕ) → Spans line at ts end → Stand line at ts end
stand line at [] end s = (s.0, blanks line at end s.1)
stand line at (t ∷ ts) end s = (s.0, blanks line at t.from s.1, longest_token line t s.2 s.3, stand line t.to ts end s.4)

-- where the line is over, nothing is left or a comment
over_rest : (rest : List ℕ) → starts rest ≡ over → (rest ≡ []) ⊎ IsComment rest
over_rest rest o = by (start_case rest)
  where
    none : (bs : List ℕ) → length bs ≡ 0 → bs ≡ []
    none [] e = refl
    none (b ∷ bs) e = absurd (omega arith)

    by : StartCase rest → (rest ≡ []) ⊎ IsComment rest
    by (at_end n e) = inl (none rest n)
    by (at_blank b e) = absurd (over_gap (sym o ∙ e))
    by (at_comment f e) =
        let n : comment_len rest ≡ length rest = comment_over rest (comment_len rest) (sym e ∙ o) in
        let whole : take (comment_len rest) rest ≡ rest = take_all (comment_len rest) rest (omega (arith, n)) in
        inr (record { begins = f; text = subst IsCommentText whole (comment_text rest) })
    by (at_token k n e) = absurd (over_token k n (sym o ∙ e))
    by (at_nothing n e) = absurd (over_bad 0 (sym o ∙ e))

-- where nothing begins, none does by the grammar, or a comment breaks off
bad_rest : (rest : List ℕ) (n : ℕ) → starts rest ≡ bad n → ((n ≡ 0) × BeginsNothing rest) ⊎ IsBrokenComment rest n
bad_rest rest n b = by (start_case rest)
  where
    no_longer : (l : ℕ) → l ≤ comment_len rest → comment_len rest ≡ n → n < l → ⊥
    no_longer l le m lt = omega (arith, le, m, lt)

    by : StartCase rest → ((n ≡ 0) × BeginsNothing rest) ⊎ IsBrokenComment rest n
    by (at_end m e) = absurd (over_bad n (sym e ∙ b))
    by (at_blank m e) = absurd (bad_gap n (sym b ∙ e))
    by (at_comment f e) =
        let m : comment_len rest ≡ n = comment_bad rest (comment_len rest) n (sym e ∙ b) in
        inr (record {
          begins = f;
          text = subst (λ (z : ℕ). IsCommentText (take z rest)) m (comment_text rest);
          breaks = λ l lt le h. no_longer l (comment_longest rest l le h) m lt;
        })
    by (at_token k m e) = absurd (bad_token k n m (sym b ∙ e))
    by (at_nothing h e) = inl (bad_same n 0 (sym b ∙ e), h)

tokens_of : (line : List ℕ) (ts : List Token) → Lexed line ts → IsTokens line ts
tokens_of line ts h = record { end = h.0; before = stand line 0 ts h.0 h.1; behind = over_rest (drop h.0 line) h.2 }

bad_at : (line : List ℕ) (p end n : ℕ) → p ≡ end + n → ((n ≡ 0) × BeginsNothing (drop end line)) ⊎ IsBrokenComment (drop end line) n → ((p ≡ end) × BeginsNothing (drop end line)) ⊎ ((end ≤ p) × IsBrokenComment (drop end line) (p - end))
bad_at line p end n e (inl h) = inl (omega (arith, e, h.0), h.1)
bad_at line p end n e (inr h) = inr (omega (arith, e), let same : n ≡ p - end = omega (arith, e) in subst (IsBrokenComment (drop end line)) same h)

first_bad : (line : List ℕ) (p : ℕ) → Stuck line p → IsFirstBadByte line p
first_bad line p h = record {
  within = h.6;
  tokens = h.0;
  end = h.1;
  before = stand line 0 h.0 h.1 h.3;
  bad = bad_at line p h.1 h.2 h.5 (bad_rest (drop h.1 line) h.2 h.4);
}

faulty : (line : List ℕ) (e : LexError) → Refused line e → Faulty line e
faulty line (error.At p) h = first_bad line p h
faulty line error.NoMemory h = tt

pub by_grammar : {X : Type 0} (line : List ℕ) (found : X → List Token) (r : Result X LexError) → MatchResult r (λ x. Lexed line (found x)) (Refused line) → MatchResult r (λ x. IsTokens line (found x)) (Faulty line)
by_grammar line found (Ok x) h = tokens_of line (found x) h
by_grammar line found (Err e) h = faulty line e h

all_longest : (line : List ℕ) (at : ℕ) (ts : List Token) (end : ℕ) → Spans line at ts end → All (IsLongestToken line) ts
all_longest line at [] end s = All-nil (IsLongestToken line)
all_longest line at (t ∷ ts) end s = All-cons (IsLongestToken line) t ts (longest_token line t s.2 s.3) (all_longest line t.to ts end s.4)

pub lexed_longest : (line : List ℕ) (ts : List Token) → Lexed line ts → All (IsLongestToken line) ts
lexed_longest line ts h = all_longest line 0 ts h.0 h.1

-- where nothing is left or a comment, the line is over
whole_comment : (rest : List ℕ) (n : ℕ) → n ≡ length rest → comment rest n ≡ over
whole_comment rest n e = ap (λ (z : Bool). cond z over (bad n)) (eq_is n (length rest) e)

comment_starts : (rest : List ℕ) → IsComment rest → starts rest ≡ over
comment_starts rest c = by (start_case rest)
  where
    all : length rest ≤ comment_len rest → comment_len rest ≤ length rest → comment_len rest ≡ length rest
    all lo hi = omega (arith, lo, hi)

    by : StartCase rest → starts rest ≡ over
    by (at_end n e) = e
    by (at_blank b e) = absurd (true≢false (sym b ∙ ap is_blank c.begins))
    by (at_comment f e) =
        let whole : take (length rest) rest ≡ rest = take_all (length rest) rest (omega arith) in
        let most : length rest ≤ comment_len rest = comment_longest rest (length rest) (omega arith) (subst IsCommentText (sym whole) c.text) in
        e ∙ whole_comment rest (comment_len rest) (all most (comment_within rest))
    by (at_token k n e) = absurd (true≢false (sym (eq_is (get_or rest 0 0) 35 c.begins) ∙ (whole_kinded rest k n (is_whole rest k n e)).mark))
    by (at_nothing h e) = absurd (h.no_comment c.begins)

none_starts : (rest : List ℕ) → rest ≡ [] → starts rest ≡ over
none_starts rest e = ap starts e ∙ starts_none [] 0 (omega arith)

over_starts : (rest : List ℕ) → (rest ≡ []) ⊎ IsComment rest → starts rest ≡ over
over_starts rest (inl e) = none_starts rest e
over_starts rest (inr c) = comment_starts rest c

pub account : (rest : List ℕ) → IsAccount rest
account rest = record {
  token = λ k n. ((λ e. (is_whole rest k n e, is_longest rest k n e)), (λ h. token_starts rest k n h.0 h.1));
  blank = ((λ e. gap_blank rest e), (λ b. blank_starts rest b));
  over = ((λ e. over_rest rest e), (λ h. over_starts rest h));
}
