-- What the scanner's account of a place says is what the grammar says there, the other way round: where a whole token is the
-- longest, it is what begins, and where a blank stands, a blank begins.
use Rattle.std.proofs.Common.{◌≡◌, ℕ, ◌<◌, ◌≤◌, Bool, true, false, cond, List, [], ◌∷◌, nat_eq, length, get_or, take, refl, sym, ◌∙◌, ap, arith, All, Contains, true≢false}
use Rattle.std.proofs.lemmas.List.{length-take-le, get_or-take}
use Rattle.std.proofs.lemmas.List.Elements.{All-from_recursion, All-contains}
use Rattle.syn_term.specs.declared.tokens.TokenKind.{TokenKind}
use Rattle.syn_term.specs.declared.tokens.TokenKind.TheVariants as kind
use Rattle.syn_term.specs.Names.{IsSkolemName}
use Rattle.syn_term.specs.Tokens.{gap, token, signs, IsDigits, IsRowVariable, IsToken, IsWholeToken, IsLongest, starts, token_at, some_token, is_blank, name_len, number_len, row_len, skolem_len, sign_len}
use Rattle.syn_term.proofs.Passes.{eq_is, above}
use Rattle.syn_term.proofs.BeginsCases.{token_kind}
use Rattle.syn_term.proofs.NumberRuns.{number_first, number_nonempty}
use Rattle.syn_term.proofs.RowRuns.{row_first}
use Rattle.syn_term.proofs.SkolemRuns.{skolem_first}
use Rattle.syn_term.proofs.SignRuns.{sign_longest}
use Rattle.syn_term.proofs.WordRuns.{IsWord, word_nonempty}
use Rattle.syn_term.proofs.TokenLaws.{Letter, at_digit, at_row, at_skolem, at_other, at_letter, begun, is_longest, some_parts}
use Rattle.syn_term.proofs.TokenBegins.{digit_blank, digit_comment}
use Rattle.syn_term.proofs.WholeTokens.{first_letter, token_word, is_whole}
use Rattle.syn_term.proofs.StartCases.{StartCase, at_end, at_blank, at_comment, at_token, at_nothing, start_case}

-- the first byte of a token tells that it is there, that no blank or comment begins with it, and the kind
pub record Kinded (rest : List ℕ) (k : TokenKind) : Type 0 where
  pub long : 0 < length rest
  pub blank : is_blank (get_or rest 0 0) ≡ false
  pub mark : nat_eq (get_or rest 0 0) 35 ≡ false
  pub kind : (j : TokenKind) (m : ℕ) → token_at rest (get_or rest 0 0) ≡ token j m → k ≡ j

longer : (rest : List ℕ) (n : ℕ) → n ≤ length rest → 0 < length (take n rest) → 0 < length rest
longer rest n le some = let size : length (take n rest) ≡ n = length-take-le n rest le in omega (arith, size)

word_kinded : (rest : List ℕ) (n : ℕ) → n ≤ length rest → IsWord (take n rest) → Kinded rest kind.Name
word_kinded rest n le w =
    let l : Letter (get_or rest 0 0) = first_letter rest n le w in
    record {
      long = longer rest n le (word_nonempty (take n rest) w);
      blank = l.blank;
      mark = l.comment;
      kind = λ j m e. (some_parts kind.Name j (name_len rest) m (sym (at_letter rest l) ∙ e)).0;
    }

number_kinded : (rest : List ℕ) (n : ℕ) → n ≤ length rest → IsDigits (take n rest) → Kinded rest kind.Number
number_kinded rest n le d =
    let digit = number_first rest n le d in
    record {
      long = longer rest n le (number_nonempty (take n rest) d);
      blank = digit_blank (get_or rest 0 0) digit;
      mark = digit_comment (get_or rest 0 0) digit;
      kind = λ j m e. (some_parts kind.Number j (number_len rest) m (sym (at_digit rest (get_or rest 0 0) digit) ∙ e)).0;
    }

row_kinded : (rest : List ℕ) (n : ℕ) → n ≤ length rest → IsRowVariable (take n rest) → Kinded rest kind.RowVar
row_kinded rest n le r =
    let first : get_or rest 0 0 ≡ 63 = row_first rest n le r in
    record {
      long = there rest first;
      blank = ap is_blank first;
      mark = ap (λ (z : ℕ). nat_eq z 35) first;
      kind = λ j m e. (some_parts kind.RowVar j (row_len rest) m (sym (ap (token_at rest) first ∙ at_row rest) ∙ e)).0;
    }
  where
    there : (bs : List ℕ) → get_or bs 0 0 ≡ 63 → 0 < length bs
    there [] e = absurd (omega (arith, e))
    there (b ∷ bs) e = omega arith

skolem_kinded : (rest : List ℕ) (n : ℕ) → n ≤ length rest → IsSkolemName (take n rest) → Kinded rest kind.Skolem
skolem_kinded rest n le h =
    let first : get_or rest 0 0 ≡ 33 = skolem_first rest n le h in
    record {
      long = there rest first;
      blank = ap is_blank first;
      mark = ap (λ (z : ℕ). nat_eq z 35) first;
      kind = λ j m e. (some_parts kind.Skolem j (skolem_len rest) m (sym (ap (token_at rest) first ∙ at_skolem rest) ∙ e)).0;
    }
  where
    there : (bs : List ℕ) → get_or bs 0 0 ≡ 33 → 0 < length bs
    there [] e = absurd (omega (arith, e))
    there (b ∷ bs) e = omega arith

-- no sign begins with a blank or as a comment
Plain : List ℕ → Type 0
Plain sign = (is_blank (get_or sign 0 0) ≡ false) × (nat_eq (get_or sign 0 0) 35 ≡ false)

all_plain : All Plain signs
unfolding Plain
all_plain = All-from_recursion Plain signs ((refl, refl), ((refl, refl), ((refl, refl), ((refl, refl), ((refl, refl), ((refl, refl), ((refl, refl), ((refl, refl), ((refl, refl), ((refl, refl), tt))))))))))

plain_sign : (sign : List ℕ) → Contains signs sign → (is_blank (get_or sign 0 0) ≡ false) × (nat_eq (get_or sign 0 0) 35 ≡ false)
unfolding Plain
plain_sign sign h = All-contains Plain signs sign all_plain h

sign_kinded : (rest : List ℕ) (n : ℕ) → n ≤ length rest → Contains signs (take n rest) → Kinded rest kind.Sign
sign_kinded rest n le h =
    let s = sign_longest rest n le h in
    let p = plain_sign (take n rest) h in
    let same : get_or (take n rest) 0 0 ≡ get_or rest 0 0 = get_or-take n rest 0 0 s.0 in
    let some : 0 < sign_len rest = omega (arith, s.0, s.1) in
    let at : token_at rest (get_or rest 0 0) ≡ token kind.Sign (sign_len rest) =
    at_other rest (get_or rest 0 0) s.2.digit s.2.row s.2.skolem ∙ ap (λ (z : Bool). cond z (some_token kind.Name (name_len rest)) (token kind.Sign (sign_len rest))) (above (sign_len rest) some) in
    record {
      long = omega (arith, s.0, le);
      blank = ap is_blank (sym same) ∙ p.0;
      mark = ap (λ (z : ℕ). nat_eq z 35) (sym same) ∙ p.1;
      kind = λ j m e. token_kind kind.Sign j (sign_len rest) m (sym at ∙ e);
    }

kinded : (rest : List ℕ) (k : TokenKind) (n : ℕ) → n ≤ length rest → IsToken k (take n rest) → Kinded rest k
kinded rest kind.Name n le h = word_kinded rest n le (token_word (take n rest) h)
kinded rest kind.Number n le h = number_kinded rest n le h
kinded rest kind.RowVar n le h = row_kinded rest n le h
kinded rest kind.Skolem n le h = skolem_kinded rest n le h
kinded rest kind.Sign n le h = sign_kinded rest n le h

pub whole_kinded : (rest : List ℕ) (k : TokenKind) (n : ℕ) → IsWholeToken k rest n → Kinded rest k
whole_kinded rest k n h = kinded rest k n h.within h.token

-- the longest whole token is what begins
pub token_starts : (rest : List ℕ) (k : TokenKind) (n : ℕ) → IsWholeToken k rest n → IsLongest rest n → starts rest ≡ token k n
token_starts rest k n whole most = by (start_case rest)
  where
    long : length rest ≡ 0 → 0 < length rest → ⊥
    long e lt = omega (arith, e)

    same : (m : ℕ) → m ≤ n → n ≤ m → m ≡ n
    same m le ge = omega (arith, le, ge)

    by : StartCase rest → starts rest ≡ token k n
    by (at_end e o) = absurd (long e (whole_kinded rest k n whole).long)
    by (at_blank b o) = absurd (true≢false (sym b ∙ (whole_kinded rest k n whole).blank))
    by (at_comment f o) = absurd (true≢false (sym (eq_is (get_or rest 0 0) 35 f) ∙ (whole_kinded rest k n whole).mark))
    by (at_token j m o) =
        let size : m ≡ n = same m (most j m (is_whole rest j m o)) (is_longest rest j m o k n whole) in
        let which : k ≡ j = (whole_kinded rest k n whole).kind j m (begun rest j m o).1 in
        o ∙ (ap (λ (z : TokenKind). token z m) (sym which) ∙ ap (token k) size)
    by (at_nothing h o) = absurd (h.no_token k n whole)

-- a blank byte is a blank
pub blank_starts : (rest : List ℕ) → is_blank (get_or rest 0 0) ≡ true → starts rest ≡ gap
blank_starts rest blank = by (start_case rest)
  where
    none : (bs : List ℕ) → length bs ≡ 0 → is_blank (get_or bs 0 0) ≡ false
    none [] e = refl
    none (b ∷ bs) e = absurd (omega arith)

    by : StartCase rest → starts rest ≡ gap
    by (at_end e o) = absurd (true≢false (sym blank ∙ none rest e))
    by (at_blank b o) = o
    by (at_comment f o) = absurd (true≢false (sym blank ∙ ap is_blank f))
    by (at_token k n o) = absurd (true≢false (sym blank ∙ (whole_kinded rest k n (is_whole rest k n o)).blank))
    by (at_nothing h o) = absurd (h.no_blank blank)
