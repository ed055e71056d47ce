-- Where a token begins, it is one of its kind, and none at that place is longer.
use Rattle.std.proofs.Common.{◌≡◌, ℕ, ◌<◌, ◌≤◌, ◌⊎◌, inl, inr, ◌&&◌, Bool, true, false, List, cond, nat_eq, length, get_or, take, drop, refl, sym, ◌∙◌, ap, subst, arith, ⊎_elim}
use Rattle.std.specs.Char.{is_ascii_digit, is_ascii_alphabetic}
use Rattle.std.proofs.lemmas.List.{length-take-le, get_or-take}
use Rattle.std.proofs.lemmas.Bool.{cases_lt}
use Rattle.std.proofs.lemmas.Bool.Decides.{nat_tests}
use Rattle.syn_term.specs.declared.tokens.TokenKind.{TokenKind}
use Rattle.syn_term.specs.declared.tokens.TokenKind.TheVariants as kind
use Rattle.syn_term.specs.Tokens.{gap, over, bad, token, IsToken, IsLongest, IsRowVariable, IsCutRow, IsWholeToken, run_len, front_chars, starts, token_at, some_token, comment, comment_len, is_blank, number_len, row_len, skolem_len, sign_len, sign_of, is_single_sign, name_len}
use Rattle.syn_term.proofs.Passes.{some_of, eq_of, eq_is, above}
use Rattle.syn_term.proofs.Continuing.{none_counted}
use Rattle.syn_term.proofs.BeginsCases.{gap_token, over_token, bad_token, token_kind, token_length}
use Rattle.syn_term.proofs.WordRuns.{IsWord, name_is_word, word_name, word_first, word_nonempty}
use Rattle.syn_term.proofs.ReservedWords.{reserved_word}
use Rattle.syn_term.proofs.NameRuns.{name_counted, name_longest}
use Rattle.syn_term.proofs.NumberRuns.{number_counted, number_first, front_number}
use Rattle.syn_term.proofs.RowRuns.{row_counted, row_longest, row_first}
use Rattle.syn_term.proofs.SkolemRuns.{skolem_counted, skolem_longest, skolem_first}
use Rattle.syn_term.proofs.SignRuns.{sign_counted, sign_longest}

-- a comment is no token
no_comment : (rest : List ℕ) (v : ℕ) (k : TokenKind) (n : ℕ) → comment rest v ≡ token k n → ⊥
no_comment rest v k n e =
    elim (nat_eq v (length rest)) as (λ z. cond z over (bad v) ≡ token k n → ⊥) [
      | true ↦ (λ h. over_token k n h)
      | false ↦ (λ h. bad_token k v n h)
    ] e

-- a token begins with a byte that is there, and that byte tells its kind
pub begun : (rest : List ℕ) (k : TokenKind) (n : ℕ) → starts rest ≡ token k n → (0 < length rest) × (token_at rest (get_or rest 0 0) ≡ token k n)
unfolding starts
begun rest k n e =
    elim (nat_eq (length rest) 0) as (λ z. nat_eq (length rest) 0 ≡ z → cond z over (cond (is_blank (get_or rest 0 0)) gap (cond (nat_eq (get_or rest 0 0) 35) (comment rest (comment_len rest)) (token_at rest (get_or rest 0 0)))) ≡ token k n → (0 < length rest) × (token_at rest (get_or rest 0 0) ≡ token k n)) [
      | true ↦ (λ t h. absurd (over_token k n h))
      | false ↦ (λ t h. (
        some_of (length rest) t,
        elim (is_blank (get_or rest 0 0)) as (λ z. cond z gap (cond (nat_eq (get_or rest 0 0) 35) (comment rest (comment_len rest)) (token_at rest (get_or rest 0 0))) ≡ token k n → token_at rest (get_or rest 0 0) ≡ token k n) [
          | true ↦ (λ i. absurd (gap_token k n i))
          | false ↦ (λ i. elim (nat_eq (get_or rest 0 0) 35) as (λ z. cond z (comment rest (comment_len rest)) (token_at rest (get_or rest 0 0)) ≡ token k n → token_at rest (get_or rest 0 0) ≡ token k n) [
            | true ↦ (λ j. absurd (no_comment rest (comment_len rest) k n j))
            | false ↦ (λ j. j)
          ] i)
        ] h,
      ))
    ] refl e

-- what some_token tells
pub some_parts : (k j : TokenKind) (l n : ℕ) → some_token k l ≡ token j n → (k ≡ j) × (l ≡ n) × (0 < l)
some_parts k j l n e =
    elim (nat_eq l 0) as (λ z. nat_eq l 0 ≡ z → cond z (bad 0) (token k l) ≡ token j n → (k ≡ j) × (l ≡ n) × (0 < l)) [
      | true ↦ (λ t h. absurd (bad_token j 0 n h))
      | false ↦ (λ t h. (token_kind k j l n h, token_length k j l n h, some_of l t))
    ] refl e

-- a front that is a token of the kind, and lies within the bytes
Fits : List ℕ → TokenKind → ℕ → Type 0
Fits rest k n = IsToken k (take n rest) × (n ≤ length rest)

moved : (rest : List ℕ) (k j : TokenKind) (l n : ℕ) → k ≡ j → l ≡ n → Fits rest k l → Fits rest j n
moved rest k j l n e f h = subst (λ (z : TokenKind). Fits rest z n) e (subst (Fits rest k) f h)

told : (rest : List ℕ) (k j : TokenKind) (l n : ℕ) → some_token k l ≡ token j n → (0 < l → Fits rest k l) → Fits rest j n
told rest k j l n e f = let p = some_parts k j l n e in moved rest k j l n p.0 p.1 (f p.2)

number_fits : (rest : List ℕ) → 0 < number_len rest → Fits rest kind.Number (number_len rest)
unfolding Fits
number_fits rest h = let c = number_counted rest h in (c.number, c.within)

name_fits : (rest : List ℕ) → 0 < name_len rest → Fits rest kind.Name (name_len rest)
unfolding Fits
name_fits rest h =
    let c = name_counted rest h in
    let size : length (take (name_len rest) rest) ≡ name_len rest = length-take-le (name_len rest) rest c.within in
    (word_name (take (name_len rest) rest) c.word (subst (λ (z : ℕ). z ≤ 64) (sym size) c.short), c.within)

row_fits : (rest : List ℕ) → get_or rest 0 0 ≡ 63 → 0 < length rest → 0 < row_len rest → Fits rest kind.RowVar (row_len rest)
unfolding Fits
row_fits rest e some h = row_counted rest e some h

skolem_fits : (rest : List ℕ) → get_or rest 0 0 ≡ 33 → 0 < length rest → 0 < skolem_len rest → Fits rest kind.Skolem (skolem_len rest)
unfolding Fits
skolem_fits rest e some h = skolem_counted rest e some h

sign_fits : (rest : List ℕ) → 0 < sign_len rest → Fits rest kind.Sign (sign_len rest)
unfolding Fits
sign_fits rest h = sign_counted rest h

name_or_sign : (rest : List ℕ) (k : TokenKind) (n : ℕ) → cond (nat_eq (sign_len rest) 0) (some_token kind.Name (name_len rest)) (token kind.Sign (sign_len rest)) ≡ token k n → Fits rest k n
name_or_sign rest k n e =
    elim (nat_eq (sign_len rest) 0) as (λ z. nat_eq (sign_len rest) 0 ≡ z → cond z (some_token kind.Name (name_len rest)) (token kind.Sign (sign_len rest)) ≡ token k n → Fits rest k n) [
      | true ↦ (λ t h. told rest kind.Name k (name_len rest) n h (name_fits rest))
      | false ↦ (λ t h. moved rest kind.Sign k (sign_len rest) n (token_kind kind.Sign k (sign_len rest) n h) (token_length kind.Sign k (sign_len rest) n h) (sign_fits rest (some_of (sign_len rest) t)))
    ] refl e

at_byte : (rest : List ℕ) (b : ℕ) (k : TokenKind) (n : ℕ) → get_or rest 0 0 ≡ b → 0 < length rest → token_at rest b ≡ token k n → Fits rest k n
unfolding token_at
at_byte rest b k n first some e =
    elim (is_ascii_digit b) as (λ z. cond z (some_token kind.Number (number_len rest)) (cond (nat_eq b 63) (some_token kind.RowVar (row_len rest)) (cond (nat_eq b 33) (some_token kind.Skolem (skolem_len rest)) (cond (nat_eq (sign_len rest) 0) (some_token kind.Name (name_len rest)) (token kind.Sign (sign_len rest))))) ≡ token k n → Fits rest k n) [
      | true ↦ (λ h. told rest kind.Number k (number_len rest) n h (number_fits rest))
      | false ↦ (λ h. elim (nat_eq b 63) as (λ z. nat_eq b 63 ≡ z → cond z (some_token kind.RowVar (row_len rest)) (cond (nat_eq b 33) (some_token kind.Skolem (skolem_len rest)) (cond (nat_eq (sign_len rest) 0) (some_token kind.Name (name_len rest)) (token kind.Sign (sign_len rest)))) ≡ token k n → Fits rest k n) [
        | true ↦ (λ t i. told rest kind.RowVar k (row_len rest) n i (row_fits rest (first ∙ eq_of b 63 t) some))
        | false ↦ (λ t i. elim (nat_eq b 33) as (λ z. nat_eq b 33 ≡ z → cond z (some_token kind.Skolem (skolem_len rest)) (cond (nat_eq (sign_len rest) 0) (some_token kind.Name (name_len rest)) (token kind.Sign (sign_len rest))) ≡ token k n → Fits rest k n) [
          | true ↦ (λ u j. told rest kind.Skolem k (skolem_len rest) n j (skolem_fits rest (first ∙ eq_of b 33 u) some))
          | false ↦ (λ u j. name_or_sign rest k n j)
        ] refl i)
      ] refl h)
    ] e

-- where a token begins, its bytes are a token of its kind
pub is_token : (rest : List ℕ) (k : TokenKind) (n : ℕ) → starts rest ≡ token k n → IsToken k (take n rest) × (n ≤ length rest)
unfolding Fits
is_token rest k n e = let b = begun rest k n e in at_byte rest (get_or rest 0 0) k n refl b.0 b.1

-- the byte that a token of each kind begins with tells that kind
pub at_digit : (rest : List ℕ) (b : ℕ) → is_ascii_digit b ≡ true → token_at rest b ≡ some_token kind.Number (number_len rest)
unfolding token_at
at_digit rest b h =
    ap (λ (z : Bool). cond z (some_token kind.Number (number_len rest)) (cond (nat_eq b 63) (some_token kind.RowVar (row_len rest)) (cond (nat_eq b 33) (some_token kind.Skolem (skolem_len rest)) (cond (nat_eq (sign_len rest) 0) (some_token kind.Name (name_len rest)) (token kind.Sign (sign_len rest)))))) h

pub at_row : (rest : List ℕ) → token_at rest 63 ≡ some_token kind.RowVar (row_len rest)
unfolding token_at
at_row rest = refl

pub at_skolem : (rest : List ℕ) → token_at rest 33 ≡ some_token kind.Skolem (skolem_len rest)
unfolding token_at
at_skolem rest = refl

pub at_other : (rest : List ℕ) (b : ℕ) → is_ascii_digit b ≡ false → nat_eq b 63 ≡ false → nat_eq b 33 ≡ false → token_at rest b ≡ cond (nat_eq (sign_len rest) 0) (some_token kind.Name (name_len rest)) (token kind.Sign (sign_len rest))
unfolding token_at
at_other rest b digit row skolem =
    ap (λ (z : Bool). cond z (some_token kind.Number (number_len rest)) (cond (nat_eq b 63) (some_token kind.RowVar (row_len rest)) (cond (nat_eq b 33) (some_token kind.Skolem (skolem_len rest)) (cond (nat_eq (sign_len rest) 0) (some_token kind.Name (name_len rest)) (token kind.Sign (sign_len rest)))))) digit
    ∙ (ap (λ (z : Bool). cond z (some_token kind.RowVar (row_len rest)) (cond (nat_eq b 33) (some_token kind.Skolem (skolem_len rest)) (cond (nat_eq (sign_len rest) 0) (some_token kind.Name (name_len rest)) (token kind.Sign (sign_len rest))))) row
    ∙ ap (λ (z : Bool). cond z (some_token kind.Skolem (skolem_len rest)) (cond (nat_eq (sign_len rest) 0) (some_token kind.Name (name_len rest)) (token kind.Sign (sign_len rest)))) skolem)

-- a byte that may be the first of a name begins nothing else
pub record Letter (b : ℕ) : Type 0 where
  pub digit : is_ascii_digit b ≡ false
  pub row : nat_eq b 63 ≡ false
  pub skolem : nat_eq b 33 ≡ false
  pub single : is_single_sign b ≡ false
  pub dash : nat_eq b 45 ≡ false
  pub less : nat_eq b 60 ≡ false
  pub blank : is_blank b ≡ false
  pub comment : nat_eq b 35 ≡ false

letter_low : (b : ℕ) → is_ascii_alphabetic b ≡ true → Letter b
letter_low b h = record {
  digit = grind (arith, nat_tests);
  row = grind (arith, nat_tests);
  skolem = grind (arith, nat_tests);
  single = grind (arith, nat_tests);
  dash = grind (arith, nat_tests);
  less = grind (arith, nat_tests);
  blank = grind (arith, nat_tests);
  comment = grind (arith, nat_tests);
}

letter_high : (b : ℕ) → 128 ≤ b → Letter b
letter_high b h = record {
  digit = grind (arith, nat_tests);
  row = grind (arith, nat_tests);
  skolem = grind (arith, nat_tests);
  single = grind (arith, nat_tests);
  dash = grind (arith, nat_tests);
  less = grind (arith, nat_tests);
  blank = grind (arith, nat_tests);
  comment = grind (arith, nat_tests);
}

pub letter_of : (bs : List ℕ) → IsWord bs → Letter (get_or bs 0 0)
letter_of bs w =
    ⊎_elim (λ low. letter_low (get_or bs 0 0) (word_first bs w (word_nonempty bs w) low)) (λ high. letter_high (get_or bs 0 0) high) (cases_lt (get_or bs 0 0) 128)

no_sign : (b c d : ℕ) → Letter b → sign_of b c d ≡ 0
no_sign b c d l =
    ap (λ (z : Bool). cond z 1 (cond (nat_eq b 45) (cond (nat_eq c 62) 2 1) (cond (nat_eq b 60 && (nat_eq c 45 && nat_eq d 62)) 3 0))) l.single
    ∙ (ap (λ (z : Bool). cond z (cond (nat_eq c 62) 2 1) (cond (nat_eq b 60 && (nat_eq c 45 && nat_eq d 62)) 3 0)) l.dash
    ∙ ap (λ (z : Bool). cond (z && (nat_eq c 45 && nat_eq d 62)) 3 0) l.less)

no_sign_len : (rest : List ℕ) → Letter (get_or rest 0 0) → nat_eq (sign_len rest) 0 ≡ true
unfolding sign_len
no_sign_len rest l = eq_is (sign_of (get_or rest 0 0) (get_or rest 1 0) (get_or rest 2 0)) 0 (no_sign (get_or rest 0 0) (get_or rest 1 0) (get_or rest 2 0) l)

pub at_letter : (rest : List ℕ) → Letter (get_or rest 0 0) → token_at rest (get_or rest 0 0) ≡ some_token kind.Name (name_len rest)
at_letter rest l =
    at_other rest (get_or rest 0 0) l.digit l.row l.skolem
    ∙ ap (λ (z : Bool). cond z (some_token kind.Name (name_len rest)) (token kind.Sign (sign_len rest))) (no_sign_len rest l)

-- no longer front is a token of the kind
name_none : (rest : List ℕ) (j : TokenKind) (n m : ℕ) → token_at rest (get_or rest 0 0) ≡ token j n → n < m → m ≤ length rest → IsWord (take m rest) → ⊥
name_none rest j n m e lt le w =
    let same : get_or (take m rest) 0 0 ≡ get_or rest 0 0 = get_or-take m rest 0 0 (omega arith) in
    let l : Letter (get_or rest 0 0) = subst Letter same (letter_of (take m rest) w) in
    let p = some_parts kind.Name j (name_len rest) n (sym (at_letter rest l) ∙ e) in
    let most : m ≤ name_len rest = name_longest rest m le w p.2 in
    omega (arith, p.1, most)

number_none : (rest : List ℕ) (j : TokenKind) (n m : ℕ) → token_at rest (get_or rest 0 0) ≡ token j n → n < m → m ≤ length rest → IsToken kind.Number (take m rest) → ⊥
number_none rest j n m e lt le h =
    let p = some_parts kind.Number j (number_len rest) n (sym (at_digit rest (get_or rest 0 0) (number_first rest m le h)) ∙ e) in
    let all = (number_counted rest p.2).whole in
    let most = front_number rest m le h in
    omega (arith, p.1, all, most)

row_none : (rest : List ℕ) (j : TokenKind) (n m : ℕ) → token_at rest (get_or rest 0 0) ≡ token j n → n < m → m ≤ length rest → (r : IsRowVariable (take m rest)) → (0 < length r.sort → run_len (front_chars (drop m rest)) ≡ 0) → ⊥
row_none rest j n m e lt le r ends =
    let first : get_or rest 0 0 ≡ 63 = row_first rest m le r in
    let p = some_parts kind.RowVar j (row_len rest) n (sym (ap (token_at rest) first ∙ at_row rest) ∙ e) in
    let most : m ≤ row_len rest = row_longest rest m le r ends p.2 in
    omega (arith, p.1, most)

skolem_none : (rest : List ℕ) (j : TokenKind) (n m : ℕ) → token_at rest (get_or rest 0 0) ≡ token j n → n < m → m ≤ length rest → IsToken kind.Skolem (take m rest) → ⊥
skolem_none rest j n m e lt le h =
    let first : get_or rest 0 0 ≡ 33 = skolem_first rest m le h in
    let p = some_parts kind.Skolem j (skolem_len rest) n (sym (ap (token_at rest) first ∙ at_skolem rest) ∙ e) in
    let most : m ≤ skolem_len rest = skolem_longest rest m le h p.2 in
    omega (arith, p.1, most)

sign_none : (rest : List ℕ) (j : TokenKind) (n m : ℕ) → token_at rest (get_or rest 0 0) ≡ token j n → n < m → m ≤ length rest → IsToken kind.Sign (take m rest) → ⊥
sign_none rest j n m e lt le h =
    let s = sign_longest rest m le h in
    let some : 0 < sign_len rest = omega (arith, s.0, s.1) in
    let at : token_at rest (get_or rest 0 0) ≡ token kind.Sign (sign_len rest) =
    at_other rest (get_or rest 0 0) s.2.digit s.2.row s.2.skolem ∙ ap (λ (z : Bool). cond z (some_token kind.Name (name_len rest)) (token kind.Sign (sign_len rest))) (above (sign_len rest) some) in
    let size : sign_len rest ≡ n = token_length kind.Sign j (sign_len rest) n (sym at ∙ e) in
    omega (arith, size, s.1)

-- a row variable that is not cut off has a sort that no word goes on from
row_uncut : (rest : List ℕ) (m : ℕ) (r : IsRowVariable (take m rest)) → (IsCutRow rest m → ⊥) → 0 < length r.sort → run_len (front_chars (drop m rest)) ≡ 0
row_uncut rest m r whole some = none_counted (front_chars (drop m rest)) (λ on. whole (record { row = r; cut = inr (some, on) }))

none_longer : (rest : List ℕ) (j : TokenKind) (n : ℕ) → token_at rest (get_or rest 0 0) ≡ token j n → (k : TokenKind) (m : ℕ) → n < m → IsWholeToken k rest m → ⊥
none_longer rest j n e kind.Name m lt h =
    ⊎_elim (λ named. name_none rest j n m e lt h.within (name_is_word (take m rest) named)) (λ known. name_none rest j n m e lt h.within (reserved_word (take m rest) known).0) h.token
none_longer rest j n e kind.Number m lt h = number_none rest j n m e lt h.within h.token
none_longer rest j n e kind.RowVar m lt h = row_none rest j n m e lt h.within h.token (row_uncut rest m h.token h.whole)
none_longer rest j n e kind.Skolem m lt h = skolem_none rest j n m e lt h.within h.token
none_longer rest j n e kind.Sign m lt h = sign_none rest j n m e lt h.within h.token

-- and no longer front is a whole token
pub is_longest : (rest : List ℕ) (k : TokenKind) (n : ℕ) → starts rest ≡ token k n → IsLongest rest n
is_longest rest k n e j m h =
    ⊎_elim (λ le. le) (λ lt. absurd (none_longer rest k n (begun rest k n e).1 j m lt h)) (le_or_lt m n)
  where
    le_or_lt : (m n : ℕ) → (m ≤ n) ⊎ (n < m)
    le_or_lt m n = ⊎_elim (λ lt. inr lt) (λ ge. inl ge) (cases_lt n m)
