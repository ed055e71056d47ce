-- What is a lexeme, from what is a token: its digits are a number, its bytes are text, and a row variable is cut at its colon.
use Rattle.std.proofs.Common.{◌≡◌, ◌≢◌, ℕ, zero, suc, ◌+◌, ◌<◌, ◌^◌, ◌++◌, List, [], ◌∷◌, inl, inr, Option, None, Some, Bor, Contains, MatchOption, codes, decimal, length, get_or, refl, sym, ◌∙◌, ap, subst, append-nil, arith}
use Rattle.std.specs.Str.{IsUtf8, IsAscii}
use Rattle.std.specs.Str.Parse.{AllDigits}
use Rattle.std.specs.Int.{IsInRange}
use Rattle.std.proofs.lemmas.Fmt.{decimal_is_IsNumeral, IsAscii-decimal}
use Rattle.std.proofs.lemmas.List.{get_or-append-add, length-append}
use Rattle.std.proofs.lemmas.Str.{IsUtf8-append, IsUtf8-from_ascii, IsUtf8-nil}
use Rattle.std.proofs.lemmas.Str.Parse.{digit_at}
use Rattle.std.proofs.lemmas.Str.Pattern.{IsSplitOnceResult, split_after, split_parts}
use Rattle.syn_term.specs.declared.tokens.TokenKind.{TokenKind}
use Rattle.syn_term.specs.declared.tokens.TokenKind.TheVariants as kind
use Rattle.syn_term.specs.Names.{reserved, IsNumber, IsTag, IsSkolemName}
use Rattle.syn_term.specs.Tokens.{Word, IsWrittenSort, IsRowVariable, IsToken}
use Rattle.syn_term.proofs.ReservedWords.{reserved_word}
use Rattle.syn_form.specs.declared.syntax.Lexeme.{Lexeme}
use Rattle.syn_form.specs.declared.syntax.Lexeme.TheVariants as lexeme
use Rattle.syn_lex.specs.Lexing.{word}
use Rattle.syn_parse.specs.inner.Spelling.{NoLexeme, NoMark, NoNumber, Spells, row_word}

-- numbers

number_fits : (text : List ℕ) → IsNumber text → NoNumber text → ⊥
number_fits text is none = let small : is.number < 10 ^ 7 = is.small in none is.number (omega arith) is.is

no_colon : (number : List ℕ) → IsNumber number → (i : ℕ) → i < length number → get_or number i 0 ≢ 58
no_colon number is i within e =
    let small : is.number < 10 ^ 7 = is.small in
    let digits : AllDigits 10 number = subst (AllDigits 10) (sym is.is) (decimal_is_IsNumeral is.number (omega arith)).0.1 in
    let range : IsInRange 48 57 (get_or number i 0) = digit_at number i digits within in
    omega (arith, range)

-- row variables

behind_mark : (text xs : List ℕ) → 63 ∷ text ≡ 63 ∷ xs → text ≡ xs
behind_mark text xs e = cc

parts : (text : List ℕ) (r : IsRowVariable (63 ∷ text)) → text ≡ r.number ++ r.sort
parts text r = behind_mark text (r.number ++ r.sort) r.is

-- where no colon stands, all is the number
unsplit_number : (text number sort : List ℕ) → IsNumber number → IsWrittenSort sort → text ≡ number ++ sort → IsSplitOnceResult 58 text None → IsNumber text
unsplit_number text number sort is sorted e cut =
    elim sorted [
      | inl none ↦ subst IsNumber (sym (e ∙ (ap (λ (z : List ℕ). number ++ z) none ∙ append-nil number))) is
      | inr named ↦ absurd (split_after 58 text number named.0 None cut (omega arith) (e ∙ ap (λ (z : List ℕ). number ++ z) named.2) (no_colon number is))
    ]

pub unsplit : (text : List ℕ) → IsRowVariable (63 ∷ text) → IsSplitOnceResult 58 text None → NoNumber text → ⊥
unsplit text r cut = number_fits text (unsplit_number text r.number r.sort r.numbered r.sorted (parts text r) cut)

colon_in : (number digits sort : List ℕ) → IsNumber number → number ≡ digits ++ 58 ∷ sort → ⊥
colon_in number digits sort is e =
    let size : length number ≡ length digits + length (58 ∷ sort) = ap length e ∙ length-append digits (58 ∷ sort) in
    let there : get_or number (length digits + 0) 0 ≡ 58 = ap (λ (z : List ℕ). get_or z (length digits + 0) 0) e ∙ get_or-append-add digits (58 ∷ sort) 0 0 in
    no_colon number is (length digits + 0) (omega arith) there

-- where one stands, before it is the number
split_number : (text number sort : List ℕ) (digits after : Bor (List ℕ)) → IsNumber number → IsWrittenSort sort → text ≡ number ++ sort → IsSplitOnceResult 58 text (Some (digits, after)) → IsNumber digits.now
split_number text number sort digits after is sorted e cut =
    let p = split_parts 58 text (Some (digits, after)) cut (omega arith) in
    elim sorted [
      | inl none ↦ absurd (colon_in number digits.now after.now is (sym (e ∙ (ap (λ (z : List ℕ). number ++ z) none ∙ append-nil number)) ∙ p.0))
      | inr named ↦ subst IsNumber (sym (split_after 58 text number named.0 (Some (digits, after)) cut (omega arith) (e ∙ ap (λ (z : List ℕ). number ++ z) named.2) (no_colon number is)).0) is
    ]

pub split : (text : List ℕ) (digits after : Bor (List ℕ)) → IsRowVariable (63 ∷ text) → IsSplitOnceResult 58 text (Some (digits, after)) → NoNumber digits.now → ⊥
split text digits after r cut = number_fits digits.now (split_number text r.number r.sort digits after r.numbered r.sorted (parts text r) cut)

-- an answer of a number where there is one
pub there_is : (v w : Word) (P : Type 0) (o : Option Lexeme) → (P → ⊥) → v ≡ w → MatchOption o P (Spells v) → MatchOption o ⊥ (Spells w)
there_is v w P None some same h = some h
there_is v w P (Some l) some same h = (h.0, h.1 ∙ same)

pub bare_word : (text : List ℕ) → row_word text [] ≡ word kind.RowVar (63 ∷ text)
bare_word text = ap (λ (z : List ℕ). word kind.RowVar (63 ∷ z)) (append-nil text)

pub sorted_word : (text : List ℕ) (digits after : Bor (List ℕ)) → IsSplitOnceResult 58 text (Some (digits, after)) → row_word digits.now (58 ∷ after.now) ≡ word kind.RowVar (63 ∷ text)
sorted_word text digits after cut = ap (λ (z : List ℕ). word kind.RowVar (63 ∷ z)) (sym (split_parts 58 text (Some (digits, after)) cut (omega arith)).0)

-- words of other kinds are no signs

name_no_sign : kind.Name ≡ kind.Sign → ⊥
name_no_sign e = cc

number_no_sign : kind.Number ≡ kind.Sign → ⊥
number_no_sign e = cc

row_no_sign : kind.RowVar ≡ kind.Sign → ⊥
row_no_sign e = cc

skolem_no_sign : kind.Skolem ≡ kind.Sign → ⊥
skolem_no_sign e = cc

-- a sign that is no mark is no lexeme
pub sign_none : (text : List ℕ) → NoMark (word kind.Sign text) → NoLexeme (word kind.Sign text)
sign_none text none (lexeme.Number n) c e = number_no_sign (ap (λ (w : Word). w.kind) e)
sign_none text none (lexeme.RowVar n sort) c e = row_no_sign (ap (λ (w : Word). w.kind) e)
sign_none text none (lexeme.Name x) c e = name_no_sign (ap (λ (w : Word). w.kind) e)
sign_none text none (lexeme.Skolem x) c e = skolem_no_sign (ap (λ (w : Word). w.kind) e)
sign_none text none (lexeme.Fixed m) c e = none m e

-- the bytes of a token are text

one_byte : (b : ℕ) → b < 128 → IsAscii (b ∷ [])
one_byte b low zero = low
one_byte b low (suc i) = omega arith

byte_text : (b : ℕ) → b < 128 → IsUtf8 (b ∷ [])
byte_text b low = IsUtf8-from_ascii (b ∷ []) (one_byte b low)

decimal_text : (bs : List ℕ) (n : ℕ) → n < 10 ^ 7 → bs ≡ decimal n → IsUtf8 bs
decimal_text bs n low e = subst IsUtf8 (sym e) (IsUtf8-from_ascii (decimal n) (IsAscii-decimal n (omega arith)))

sort_text : (sort : List ℕ) → IsWrittenSort sort → IsUtf8 sort
sort_text sort sorted =
    elim sorted [
      | inl none ↦ subst IsUtf8 (sym none) IsUtf8-nil
      | inr named ↦ subst IsUtf8 (sym named.2) (IsUtf8-append (58 ∷ []) named.0 (byte_text 58 (omega arith)) named.1.text)
    ]

row_text : (bs : List ℕ) → IsRowVariable bs → IsUtf8 bs
row_text bs r =
    subst IsUtf8 (sym r.is)
    (IsUtf8-append (63 ∷ []) (r.number ++ r.sort) (byte_text 63 (omega arith))
    (IsUtf8-append r.number r.sort (decimal_text r.number r.numbered.number r.numbered.small r.numbered.is) (sort_text r.sort r.sorted)))

reserved_text : (bs : List ℕ) → Contains reserved bs → IsUtf8 bs
reserved_text bs h = (reserved_word bs h).0.text

tag_text : (tag : List ℕ) → IsTag tag → IsUtf8 tag
tag_text tag is =
    elim is [
      | inl goal ↦ subst IsUtf8 (sym goal) (reserved_text (codes "goal") (12, omega arith, refl))
      | inr more ↦ elim more [
        | inl induct ↦ subst IsUtf8 (sym induct) (reserved_text (codes "induct") (14, omega arith, refl))
        | inr named ↦ named.text
      ]
    ]

skolem_text : (bs : List ℕ) → IsSkolemName bs → IsUtf8 bs
skolem_text bs s =
    subst IsUtf8 (sym s.is)
    (IsUtf8-append (33 ∷ []) ((s.tag ++ (46 ∷ [])) ++ s.number) (byte_text 33 (omega arith))
    (IsUtf8-append (s.tag ++ (46 ∷ [])) s.number (IsUtf8-append s.tag (46 ∷ []) (tag_text s.tag s.tagged) (byte_text 46 (omega arith)))
    (decimal_text s.number s.numbered.number s.numbered.small s.numbered.is)))

word_text : (bs : List ℕ) → IsToken kind.Name bs → IsUtf8 bs
word_text bs is = elim is [ inl named ↦ named.text | inr r ↦ reserved_text bs r ]

-- so what is no text is a token only as a sign
pub no_text : (k : TokenKind) (bs : List ℕ) → IsToken k bs → (IsUtf8 bs → ⊥) → NoMark (word k bs) → NoLexeme (word k bs)
no_text kind.Name bs is unread none = absurd (unread (word_text bs is))
no_text kind.Number bs is unread none = absurd (unread (decimal_text bs is.0 is.1 is.2))
no_text kind.RowVar bs is unread none = absurd (unread (row_text bs is))
no_text kind.Skolem bs is unread none = absurd (unread (skolem_text bs is))
no_text kind.Sign bs is unread none = sign_none bs none
