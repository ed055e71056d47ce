-- What the bytes of a name are. A byte below 128 is a character of its own, so it is told by what the two properties say
-- of ASCII; a byte from 128 on is part of another character, and none of the marks that texts use is such a byte.
use Rattle.std.proofs.Common.{◌≡◌, ℕ, zero, suc, ◌<◌, ◌^◌, ◌⊎◌, ◌++◌, Bool, true, false, not, List, [], ◌∷◌, All, length, get_or, sym, ◌∙◌, ap, subst, refl, inl, inr, arith, ⊎_elim, append_assoc, true≢false}
use Rattle.std.specs.Char.{is_ascii_alphabetic}
use Rattle.std.specs.Str.{NonePass, chars}
use Rattle.std.specs.List.{list_all}
use lib.Utf8.{encodes}
use Rattle.std.proofs.lemmas.Str.{NoCharPasses-byte, encodes-chars, char_from_byte, chars-nil}
use Rattle.std.proofs.lemmas.List.Elements.{All-from_get_or, All-same, All-cons, All-append}
use Rattle.std.specs.Int.{IsInRange}
use Rattle.std.specs.Str.Parse.{AllDigits}
use Rattle.std.proofs.lemmas.Str.Parse.{digit_at}
use Rattle.std.proofs.lemmas.Fmt.{decimal_is_IsNumeral}
use Rattle.std.proofs.lemmas.Bool.Decides.{nat_tests}
use Rattle.unicode_ident.specs.Ident.{is_xid_start, is_xid_continue}
use Rattle.unicode_ident.proofs.IdentLemmas.{is_xid_start-ascii, is_xid_continue-ascii}
use Rattle.std.proofs.lemmas.Bool.{cases_lt}
use Rattle.syn_term.proofs.Passes.{and_parts}
use Rattle.syn_term.specs.Names.{IsName, IsTag, IsNumber, IsSkolemName, Starts, is_name_byte}

from_not : (a : Bool) → not a ≡ false → a ≡ true
from_not true h = refl
from_not false h = absurd (true≢false h)

not_of : (a : Bool) → a ≡ true → not a ≡ false
not_of true h = refl
not_of false h = absurd (true≢false (sym h))

none_pass : (t : ℕ → Bool) (cs : List ℕ) → list_all t cs ≡ true → NonePass (λ c. not (t c)) cs
none_pass t [] h = tt
none_pass t (c ∷ cs) h = let p = and_parts (t c) (list_all t cs) h in (not_of (t c) p.0, none_pass t cs p.1)

-- a byte of a name is part of a character beyond ASCII, or a letter, a digit or an underscore
pub name_byte : (n : List ℕ) (i : ℕ) → IsName n → i < length n → get_or n i 0 < 128 → is_name_byte (get_or n i 0) ≡ true
name_byte n i named within low =
    let p : ℕ → Bool = λ c. not (is_xid_continue c) in
    let fails : not (is_xid_continue (get_or n i 0)) ≡ false =
    NoCharPasses-byte p n i (chars n, encodes-chars n named.text, none_pass is_xid_continue (chars n) named.continues) within low in
    sym (is_xid_continue-ascii (get_or n i 0) low) ∙ from_not (is_xid_continue (get_or n i 0)) fails

-- so a name has no ASCII mark: give the byte, and that it is no letter, digit or underscore computes
pub name_without : (n : List ℕ) (b : ℕ) → IsName n → b < 128 → is_name_byte b ≡ false → All (λ c. c ≡ b → ⊥) n
name_without n b named low mark =
    All-from_get_or (λ c. c ≡ b → ⊥) n 0
    (λ i within e. true≢false (sym (name_byte n i named within (subst (λ (c : ℕ). c < 128) (sym e) low)) ∙ (ap is_name_byte e ∙ mark)))

-- a name has a first byte
pub name_nonempty : (n : List ℕ) → IsName n → 0 < length n
name_nonempty [] named = absurd (subst Starts chars-nil named.starts)
name_nonempty (b ∷ bs) named = omega arith

pub first_start : (cs n : List ℕ) → Starts cs → encodes cs ≡ n → 0 < length n → get_or n 0 0 < 128 → is_ascii_alphabetic (get_or n 0 0) ≡ true
first_start [] n h e some low = absurd h
first_start (c ∷ cs) n h e some low =
    let same : c ≡ get_or n 0 0 = char_from_byte n (encodes cs) c (sym e) low some in
    sym (is_xid_start-ascii (get_or n 0 0) low) ∙ (ap is_xid_start (sym same) ∙ h)

-- the first byte of a name is part of a character beyond ASCII, or a letter
pub name_first : (n : List ℕ) → IsName n → get_or n 0 0 < 128 → is_ascii_alphabetic (get_or n 0 0) ≡ true
name_first n named low = first_start (chars n) n named.starts (encodes-chars n named.text) (name_nonempty n named) low

letter_no_digit : (b : ℕ) → is_ascii_alphabetic b ≡ true → b < 48 ⊎ 57 < b
letter_no_digit b h = grind (arith, nat_tests)

-- so it is no digit
pub name_first_no_digit : (n : List ℕ) → IsName n → get_or n 0 0 < 48 ⊎ 57 < get_or n 0 0
name_first_no_digit n named =
    ⊎_elim (λ low. letter_no_digit (get_or n 0 0) (name_first n named low)) (λ high. inr (omega arith)) (cases_lt (get_or n 0 0) 128)

-- and no mark either, such as the exclamation mark
pub name_first_other : (n : List ℕ) (b : ℕ) → IsName n → b < 128 → is_ascii_alphabetic b ≡ false → get_or n 0 0 ≡ b → ⊥
name_first_other n b named low mark e =
    true≢false (sym (name_first n named (subst (λ (c : ℕ). c < 128) (sym e) low)) ∙ (ap is_ascii_alphabetic e ∙ mark))

passes : (p : ℕ → Bool) (xs : List ℕ) (i : ℕ) → list_all p xs ≡ true → i < length xs → p (get_or xs i 0) ≡ true
passes p [] i h lt = absurd (omega arith)
passes p (x ∷ xs) zero h lt = (and_parts (p x) (list_all p xs) h).0
passes p (x ∷ xs) (suc i) h lt = passes p xs i (and_parts (p x) (list_all p xs) h).1 (omega arith)

-- what holds of the bytes of a name holds of those of a tag
pub tag_byte : (tag : List ℕ) (i : ℕ) → IsTag tag → i < length tag → get_or tag i 0 < 128 → is_name_byte (get_or tag i 0) ≡ true
tag_byte tag i is within low =
    elim is [
      | inl goal ↦ passes is_name_byte tag i (ap (list_all is_name_byte) goal) within
      | inr more ↦ elim more [
        | inl induct ↦ passes is_name_byte tag i (ap (list_all is_name_byte) induct) within
        | inr named ↦ name_byte tag i named within low
      ]
    ]

pub tag_without : (tag : List ℕ) (b : ℕ) → IsTag tag → b < 128 → is_name_byte b ≡ false → (i : ℕ) → i < length tag → get_or tag i 0 ≡ b → ⊥
tag_without tag b is low mark i within e =
    true≢false (sym (tag_byte tag i is within (subst (λ (c : ℕ). c < 128) (sym e) low)) ∙ (ap is_name_byte e ∙ mark))

-- the name of a Skolem symbol, cut at its marks
pub skolem_is : (bs : List ℕ) (named : IsSkolemName bs) → bs ≡ 33 ∷ (named.tag ++ 46 ∷ named.number)
skolem_is bs named = named.is ∙ ap (λ (rest : List ℕ). 33 ∷ rest) (append_assoc named.tag (46 ∷ []) named.number)

digit_is_name_byte : (b : ℕ) → IsInRange 48 57 b → is_name_byte b ≡ true
digit_is_name_byte b h = grind (arith, nat_tests)

number_without : (number : List ℕ) (b : ℕ) → IsNumber number → is_name_byte b ≡ false → (i : ℕ) → i < length number → get_or number i 0 ≡ b → ⊥
number_without number b is mark i within e =
    let small : is.number < 10 ^ 7 = is.small in
    let digits : AllDigits 10 number = subst (AllDigits 10) (sym is.is) (decimal_is_IsNumeral is.number (omega arith)).0.1 in
    true≢false (sym (digit_is_name_byte (get_or number i 0) (digit_at number i digits within)) ∙ (ap is_name_byte e ∙ mark))

-- the name of a Skolem symbol has no ASCII mark but the exclamation mark and the full stop
pub skolem_without : (bs : List ℕ) (b : ℕ) → IsSkolemName bs → b < 128 → is_name_byte b ≡ false → (33 ≡ b → ⊥) → (46 ≡ b → ⊥) → All (λ c. c ≡ b → ⊥) bs
skolem_without bs b named low mark other_mark other_stop =
    let P : ℕ → Type 0 = λ c. c ≡ b → ⊥ in
    let tag : All P named.tag = All-from_get_or P named.tag 0 (tag_without named.tag b named.tagged low mark) in
    let number : All P named.number = All-from_get_or P named.number 0 (number_without named.number b named.numbered mark) in
    All-same P bs (33 ∷ (named.tag ++ 46 ∷ named.number)) (skolem_is bs named)
    (All-cons P 33 _ other_mark (All-append P named.tag (46 ∷ named.number) tag (All-cons P 46 named.number other_stop number)))

-- no text is both a name and the name of a Skolem symbol
pub name_or_skolem : (bs : List ℕ) → IsName bs → IsSkolemName bs → ⊥
name_or_skolem bs name skolem = name_first_other bs 33 name (omega arith) refl (ap (λ (n : List ℕ). get_or n 0 0) (skolem_is bs skolem))
