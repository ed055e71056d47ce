-- A line has one answer at most. Two places that are reached over blanks and where no blank begins are one place; so two
-- lists of tokens agree from the front on, and with them the places where they end.
use Rattle.std.proofs.Common.{◌≡◌, ℕ, ◌+◌, ◌-◌, ◌<◌, ◌≤◌, List, [], ◌∷◌, drop, refl, sym, ◌∙◌, ap, subst, arith}
use Rattle.syn_term.specs.declared.tokens.TokenKind.{TokenKind}
use Rattle.syn_lex.specs.declared.token.Token.{Token}
use Rattle.syn_term.specs.Tokens.{gap, over, bad, token, starts}
use Rattle.syn_lex.specs.Lexing.{Blank, Spans, Lexed, Stuck, OneAnswer}
use Rattle.syn_term.proofs.BeginsCases.{gap_token, over_token, bad_token, over_gap, bad_gap, over_bad, bad_same, token_kind, token_length}
use Rattle.syn_lex.proofs.OnePlace.{one_place}

abbrev NoGap : List ℕ → ℕ → Type 0
NoGap line p = starts (drop p line) ≡ gap → ⊥

-- neither a blank nor a token begins there
record Ends (line : List ℕ) (p : ℕ) : Type 0 where
  gap : NoGap line p
  token : (k : TokenKind) (n : ℕ) → starts (drop p line) ≡ token k n → ⊥

least : (line : List ℕ) (at p q : ℕ) → at ≤ p → Blank line at q → NoGap line p → p < q → ⊥
least line at p q le blank none lt = none (blank p le lt)

same_place : (line : List ℕ) (at p q : ℕ) → at ≤ p → at ≤ q → Blank line at p → Blank line at q → NoGap line p → NoGap line q → p ≡ q
same_place line at p q lp lq bp bq np nq = one_place p q (least line at p q lp bq np) (least line at q p lq bp nq)

token_no_gap : (line : List ℕ) (p : ℕ) (k : TokenKind) (n : ℕ) → starts (drop p line) ≡ token k n → NoGap line p
token_no_gap line p k n e g = gap_token k n (sym g ∙ e)

over_ends : (line : List ℕ) (p : ℕ) → starts (drop p line) ≡ over → Ends line p
over_ends line p e = record { gap = λ g. over_gap (sym e ∙ g); token = λ k n t. over_token k n (sym e ∙ t) }

bad_ends : (line : List ℕ) (p m : ℕ) → starts (drop p line) ≡ bad m → Ends line p
bad_ends line p m e = record { gap = λ g. bad_gap m (sym e ∙ g); token = λ k n t. bad_token k m n (sym e ∙ t) }

ends_at_token : (line : List ℕ) (at p q : ℕ) (k : TokenKind) (n : ℕ) → at ≤ p → at ≤ q → Blank line at p → Blank line at q → Ends line p → starts (drop q line) ≡ token k n → ⊥
ends_at_token line at p q k n lp lq bp bq ends e =
    let same : q ≡ p = sym (same_place line at p q lp lq bp bq ends.gap (token_no_gap line q k n e)) in
    ends.token k n (subst (λ (z : ℕ). starts (drop z line) ≡ token k n) same e)

token_parts : (t u : Token) → t.kind ≡ u.kind → t.from ≡ u.from → t.to ≡ u.to → t ≡ u
token_parts t u kind from to =
    ap (λ (z : TokenKind). record { kind = z; from = t.from; to = t.to }) kind
    ∙ (ap (λ (z : ℕ). record { kind = u.kind; from = z; to = t.to }) from ∙ ap (λ (z : ℕ). record { kind = u.kind; from = u.from; to = z }) to)

same_token : (line : List ℕ) (at : ℕ) (t u : Token) → at ≤ t.from → at ≤ u.from → Blank line at t.from → Blank line at u.from → starts (drop t.from line) ≡ token t.kind (t.to - t.from) → starts (drop u.from line) ≡ token u.kind (u.to - u.from) → t.from < t.to → u.from < u.to → t ≡ u
same_token line at t u lt lu bt bu et eu st su =
    let from : t.from ≡ u.from = same_place line at t.from u.from lt lu bt bu (token_no_gap line t.from t.kind (t.to - t.from) et) (token_no_gap line u.from u.kind (u.to - u.from) eu) in
    let both : token t.kind (t.to - t.from) ≡ token u.kind (u.to - u.from) = sym et ∙ (ap (λ (z : ℕ). starts (drop z line)) from ∙ eu) in
    let kind : t.kind ≡ u.kind = token_kind t.kind u.kind (t.to - t.from) (u.to - u.from) both in
    let size : t.to - t.from ≡ u.to - u.from = token_length t.kind u.kind (t.to - t.from) (u.to - u.from) both in
    let to : t.to ≡ u.to = omega arith in
    token_parts t u kind from to

record Agree (ts us : List Token) (e f : ℕ) : Type 0 where
  tokens : ts ≡ us
  ends : e ≡ f

agree_more : (t u : Token) (ts us : List Token) (e f : ℕ) → t ≡ u → Agree ts us e f → Agree (t ∷ ts) (u ∷ us) e f
agree_more t u ts us e f same more = record {
  tokens = ap (λ (z : Token). z ∷ ts) same ∙ ap (λ (zs : List Token). u ∷ zs) more.tokens;
  ends = more.ends;
}

agree : (line : List ℕ) (at : ℕ) (ts us : List Token) (e f : ℕ) → Spans line at ts e → Spans line at us f → Ends line e → Ends line f → Agree ts us e f
agree line at [] [] e f s r he hf = record { tokens = refl; ends = same_place line at e f s.0 r.0 s.1 r.1 he.gap hf.gap }
agree line at [] (u ∷ us) e f s r he hf = absurd (ends_at_token line at e u.from u.kind (u.to - u.from) s.0 r.0 s.1 r.1 he r.2)
agree line at (t ∷ ts) [] e f s r he hf = absurd (ends_at_token line at f t.from t.kind (t.to - t.from) r.0 s.0 r.1 s.1 hf s.2)
agree line at (t ∷ ts) (u ∷ us) e f s r he hf =
    let same : t ≡ u = same_token line at t u s.0 r.0 s.1 r.1 s.2 r.2 s.3 r.3 in
    let spans : Spans line t.to us f = subst (λ (z : Token). Spans line z.to us f) (sym same) r.4 in
    agree_more t u ts us e f same (agree line t.to ts us e f s.4 spans he hf)

apart : (line : List ℕ) (ts : List Token) (p : ℕ) → Lexed line ts → Stuck line p → ⊥
apart line ts p lexed stuck =
    let a = agree line 0 ts stuck.0 lexed.0 stuck.1 lexed.1 stuck.3 (over_ends line lexed.0 lexed.2) (bad_ends line stuck.1 stuck.2 stuck.4) in
    over_bad stuck.2 (sym lexed.2 ∙ (ap (λ (z : ℕ). starts (drop z line)) a.ends ∙ stuck.4))

place : (line : List ℕ) (p q : ℕ) → Stuck line p → Stuck line q → p ≡ q
place line p q s r =
    let a = agree line 0 s.0 r.0 s.1 r.1 s.3 r.3 (bad_ends line s.1 s.2 s.4) (bad_ends line r.1 r.2 r.4) in
    let n : s.2 ≡ r.2 = bad_same s.2 r.2 (sym s.4 ∙ (ap (λ (z : ℕ). starts (drop z line)) a.ends ∙ r.4)) in
    s.5 ∙ (ap (λ (z : ℕ). z + s.2) a.ends ∙ (ap (λ (z : ℕ). r.1 + z) n ∙ sym r.5))

pub one_answer : (line : List ℕ) → OneAnswer line
one_answer line = record {
  tokens = λ ts us a b. (agree line 0 ts us a.0 b.0 a.1 b.1 (over_ends line a.0 a.2) (over_ends line b.0 b.2)).tokens;
  apart = apart line;
  place = place line;
}
