-- What the scanner's account of a place says of its first byte, for each thing that begins there.
use Rattle.std.proofs.Common.{◌≡◌, ℕ, Bool, true, false, List, cond, nat_eq, length, get_or, refl, sym, ◌∙◌, ap, true≢false}
use Rattle.std.specs.Char.{is_ascii_digit}
use Rattle.syn_term.specs.declared.tokens.TokenKind.{TokenKind}
use Rattle.syn_term.specs.declared.tokens.TokenKind.TheVariants as kind
use Rattle.syn_term.specs.Tokens.{Start, gap, over, bad, token, BeginsNothing, starts, token_at, some_token, comment, comment_len, is_blank, name_len, number_len, row_len, skolem_len, sign_len}
use Rattle.syn_term.proofs.Passes.{eq_of, eq_is}
use Rattle.syn_term.proofs.BeginsCases.{bad_gap, over_gap, over_bad, bad_same, gap_token}
use Rattle.syn_term.proofs.WholeTokens.{none_whole}

pub data StartCase (rest : List ℕ) : Type 0 where
  at_end : length rest ≡ 0 → starts rest ≡ over → StartCase rest
  at_blank : is_blank (get_or rest 0 0) ≡ true → starts rest ≡ gap → StartCase rest
  at_comment : get_or rest 0 0 ≡ 35 → starts rest ≡ comment rest (comment_len rest) → StartCase rest
  at_token : (k : TokenKind) (n : ℕ) → starts rest ≡ token k n → StartCase rest
  at_nothing : BeginsNothing rest → starts rest ≡ bad 0 → StartCase rest

-- a token of some kind and length is told, or nothing
data Told (w : Start) : Type 0 where
  nothing : w ≡ bad 0 → Told w
  some : (k : TokenKind) (n : ℕ) → w ≡ token k n → Told w

told : (k : TokenKind) (n : ℕ) → Told (some_token k n)
told k n =
    elim (nat_eq n 0) as (λ z. Told (cond z (bad 0) (token k n))) [
      | true ↦ nothing refl
      | false ↦ some k n refl
    ]

token_told : (rest : List ℕ) (b : ℕ) → Told (token_at rest b)
unfolding token_at
token_told rest b =
    elim (is_ascii_digit b) as (λ z. Told (cond z (some_token kind.Number (number_len rest)) (cond (nat_eq b 63) (some_token kind.RowVar (row_len rest)) (cond (nat_eq b 33) (some_token kind.Skolem (skolem_len rest)) (cond (nat_eq (sign_len rest) 0) (some_token kind.Name (name_len rest)) (token kind.Sign (sign_len rest))))))) [
      | true ↦ told kind.Number (number_len rest)
      | false ↦ elim (nat_eq b 63) as (λ z. Told (cond z (some_token kind.RowVar (row_len rest)) (cond (nat_eq b 33) (some_token kind.Skolem (skolem_len rest)) (cond (nat_eq (sign_len rest) 0) (some_token kind.Name (name_len rest)) (token kind.Sign (sign_len rest)))))) [
        | true ↦ told kind.RowVar (row_len rest)
        | false ↦ elim (nat_eq b 33) as (λ z. Told (cond z (some_token kind.Skolem (skolem_len rest)) (cond (nat_eq (sign_len rest) 0) (some_token kind.Name (name_len rest)) (token kind.Sign (sign_len rest))))) [
          | true ↦ told kind.Skolem (skolem_len rest)
          | false ↦ elim (nat_eq (sign_len rest) 0) as (λ z. Told (cond z (some_token kind.Name (name_len rest)) (token kind.Sign (sign_len rest)))) [
            | true ↦ told kind.Name (name_len rest)
            | false ↦ some kind.Sign (sign_len rest) refl
          ]
        ]
      ]
    ]

at_other : (rest : List ℕ) → is_blank (get_or rest 0 0) ≡ false → nat_eq (get_or rest 0 0) 35 ≡ false → starts rest ≡ token_at rest (get_or rest 0 0) → Told (token_at rest (get_or rest 0 0)) → StartCase rest
at_other rest blank mark e (nothing none) =
    at_nothing (record {
      no_blank = λ h. true≢false (sym h ∙ blank);
      no_comment = λ h. true≢false (sym (eq_is (get_or rest 0 0) 35 h) ∙ mark);
      no_token = none_whole rest none;
    }) (e ∙ none)
at_other rest blank mark e (some k n is) = at_token k n (e ∙ is)

whole : (rest : List ℕ) (a b c : Bool) → nat_eq (length rest) 0 ≡ a → is_blank (get_or rest 0 0) ≡ b → nat_eq (get_or rest 0 0) 35 ≡ c → starts rest ≡ cond a over (cond b gap (cond c (comment rest (comment_len rest)) (token_at rest (get_or rest 0 0))))
unfolding starts
whole rest a b c e f g =
    ap (λ (z : Bool). cond z over (cond (is_blank (get_or rest 0 0)) gap (cond (nat_eq (get_or rest 0 0) 35) (comment rest (comment_len rest)) (token_at rest (get_or rest 0 0))))) e
    ∙ (ap (λ (z : Bool). cond a over (cond z gap (cond (nat_eq (get_or rest 0 0) 35) (comment rest (comment_len rest)) (token_at rest (get_or rest 0 0))))) f
    ∙ ap (λ (z : Bool). cond a over (cond b gap (cond z (comment rest (comment_len rest)) (token_at rest (get_or rest 0 0))))) g)

pub start_case : (rest : List ℕ) → StartCase rest
start_case rest = by_length (nat_eq (length rest) 0) refl
  where
    by_mark : (c : Bool) → nat_eq (length rest) 0 ≡ false → is_blank (get_or rest 0 0) ≡ false → nat_eq (get_or rest 0 0) 35 ≡ c → StartCase rest
    by_mark true e f g = at_comment (eq_of (get_or rest 0 0) 35 g) (whole rest false false true e f g)
    by_mark false e f g = at_other rest f g (whole rest false false false e f g) (token_told rest (get_or rest 0 0))

    by_blank : (b : Bool) → nat_eq (length rest) 0 ≡ false → is_blank (get_or rest 0 0) ≡ b → StartCase rest
    by_blank true e f = at_blank f (whole rest false true (nat_eq (get_or rest 0 0) 35) e f refl)
    by_blank false e f = by_mark (nat_eq (get_or rest 0 0) 35) e f refl

    by_length : (a : Bool) → nat_eq (length rest) 0 ≡ a → StartCase rest
    by_length true e = at_end (eq_of (length rest) 0 e) (whole rest true (is_blank (get_or rest 0 0)) (nat_eq (get_or rest 0 0) 35) e refl refl)
    by_length false e = by_blank (is_blank (get_or rest 0 0)) e refl

-- a comment is over with the line, or ends before a byte that begins nothing
pub comment_over : (rest : List ℕ) (n : ℕ) → comment rest n ≡ over → n ≡ length rest
comment_over rest n e =
    elim (nat_eq n (length rest)) as (λ z. nat_eq n (length rest) ≡ z → cond z over (bad n) ≡ over → n ≡ length rest) [
      | true ↦ (λ t h. eq_of n (length rest) t)
      | false ↦ (λ t h. absurd (over_bad n (sym h)))
    ] refl e

pub comment_bad : (rest : List ℕ) (n m : ℕ) → comment rest n ≡ bad m → n ≡ m
comment_bad rest n m e =
    elim (nat_eq n (length rest)) as (λ z. cond z over (bad n) ≡ bad m → n ≡ m) [
      | true ↦ (λ h. absurd (over_bad m h))
      | false ↦ (λ h. bad_same n m h)
    ] e

comment_gap : (rest : List ℕ) (n : ℕ) → comment rest n ≡ gap → ⊥
comment_gap rest n e =
    elim (nat_eq n (length rest)) as (λ z. cond z over (bad n) ≡ gap → ⊥) [
      | true ↦ (λ h. over_gap h)
      | false ↦ (λ h. bad_gap n h)
    ] e

pub gap_blank : (rest : List ℕ) → starts rest ≡ gap → is_blank (get_or rest 0 0) ≡ true
gap_blank rest g = by (start_case rest)
  where
    by : StartCase rest → is_blank (get_or rest 0 0) ≡ true
    by (at_end n e) = absurd (over_gap (sym e ∙ g))
    by (at_blank b e) = b
    by (at_comment f e) = absurd (comment_gap rest (comment_len rest) (sym e ∙ g))
    by (at_token k n e) = absurd (gap_token k n (sym g ∙ e))
    by (at_nothing n e) = absurd (bad_gap 0 (sym e ∙ g))
