-- What stands at the front of words, and the other way round: words that begin so are read so.
use Rattle.std.proofs.Common.{◌≡◌, ℕ, ◌<◌, ◌^◌, Bool, true, false, true≢false, ◌&&◌, List, [], ◌∷◌, Option, None, Some, decimal, if◌then◌else◌, inl, inr, nat_lt, refl, sym, ◌∙◌, ap, subst, arith}
use Rattle.std.specs.Option.{option_map}
use Rattle.std.specs.Str.{IsUtf8, bytes_eq}
use Rattle.std.specs.Str.Parse.{digits_value}
use Rattle.std.proofs.lemmas.Bool.Decides.{nat_tests}
use Rattle.std.proofs.lemmas.Slice.Eq.{bytes_eq-Decides}
use Rattle.std.proofs.lemmas.Option.{option_and_then_some}
use Rattle.syn_term.specs.declared.tokens.TokenKind.{TokenKind}
use Rattle.syn_term.specs.declared.tokens.TokenKind.TheVariants as kind
use Rattle.syn_term.specs.Names.{IsName, reserved}
use Rattle.syn_term.specs.Tokens.{Word, IsToken, is_reserved}
use Rattle.syn_term.proofs.ReservedLaws.{finds, found}
use Rattle.syn_term.proofs.ReservedWords.{reserved_word}
use Rattle.syn_form.specs.Grammar.{name_word, sign_word}
use Rattle.syn_lex.specs.Lexing.{IsTokenWord}
use Rattle.syn_deriv.specs.DerivationLines.{IsFew, number_word}
use Rattle.syn_deriv.specs.inner.Firsts.{Got, got, free_first, is_sign, is_sign_kind, name_first, name_of_kind, number_first, number_of, number_of_kind, sign_first, unreserved}
use Rattle.syn_deriv.proofs.NumberLaws.{number_some, tested}

abbrev plain : TokenKind → List ℕ → Word
plain k b = record { kind = k; bytes = b }

pub same_text : (x y : List ℕ) → bytes_eq x y ≡ true → x ≡ y
same_text x y e = (bytes_eq-Decides x y).0 e

-- what stands behind a function of what may be there
pub mapped : {A B : Type 0} (f : A → B) (o : Option A) (y : B) → option_map f o ≡ Some y → (x : A) × (o ≡ Some x) × (f x ≡ y)
mapped f None y e = absurd (cc)
mapped f (Some x) y e = (x, refl, cc)

-- a test before what is answered
pub by_test : {A : Type 0} (b : Bool) (x y : Option A) (z : A) (P : Type 0) → (b ≡ true → x ≡ Some z → P) → (y ≡ Some z → P) → (if b then x else y) ≡ Some z → P
by_test true x y z P f g e = f refl e
by_test false x y z P f g e = g e

-- what is no text is no name
pub no_name : (k : TokenKind) (b : List ℕ) → IsToken k b → (IsUtf8 b → ⊥) → name_of_kind k b ≡ None
no_name kind.Name b is unread = elim is [ inl named ↦ absurd (unread named.text) | inr r ↦ absurd (unread (reserved_word b r).0.text) ]
no_name _ b is unread = refl

-- a name
name_kind : (k : TokenKind) (b : List ℕ) (ws : List Word) (g : Got (List ℕ)) → option_map (λ x. got x ws) (name_of_kind k b) ≡ Some g → plain k b ∷ ws ≡ name_word g.value ∷ g.left
name_kind kind.Name b ws g e = let h : got b ws ≡ g = cc in ap (λ (z : Got (List ℕ)). name_word z.value ∷ z.left) h
name_kind _ b ws g e = absurd (cc)

pub name_read : (ws : List Word) (g : Got (List ℕ)) → name_first ws ≡ Some g → ws ≡ name_word g.value ∷ g.left
name_read [] g e = absurd (cc)
name_read (w ∷ ws) g e = name_kind w.kind w.bytes ws g e

-- a name that is no reserved word
unreserved_is : (x g : Got (List ℕ)) (b : Bool) → is_reserved x.value ≡ b → (if b then None else Some x) ≡ Some g → (x ≡ g) × (is_reserved g.value ≡ false)
unreserved_is x g true is e = absurd (cc)
unreserved_is x g false is e = let h : x ≡ g = cc in (h, subst (λ (z : Got (List ℕ)). is_reserved z.value ≡ false) h is)

pub free_read : (ws : List Word) (g : Got (List ℕ)) → free_first ws ≡ Some g → (ws ≡ name_word g.value ∷ g.left) × (is_reserved g.value ≡ false)
free_read ws g e = option_and_then_some unreserved (name_first ws) g e
    (λ x is k.
    let p = unreserved_is x g (is_reserved x.value) refl k in
    (subst (λ (z : Got (List ℕ)). ws ≡ name_word z.value ∷ z.left) p.0 (name_read ws x is), p.1))

-- such a word of a line is a name, and a name is such a word
pub name_of_token : (x : List ℕ) → IsTokenWord (name_word x) → is_reserved x ≡ false → IsName x
name_of_token x is free = elim is [ inl named ↦ named | inr r ↦ absurd (true≢false (sym (finds reserved x r) ∙ free)) ]

name_free : (x : List ℕ) (b : Bool) → is_reserved x ≡ b → IsName x → is_reserved x ≡ false
name_free x true is named = absurd (named.free (found reserved x is))
name_free x false is named = is

pub free_reads : (x : List ℕ) (ws : List Word) → IsName x → free_first (name_word x ∷ ws) ≡ Some (got x ws)
free_reads x ws named = ap (λ (b : Bool). if b then None else Some (got x ws)) (name_free x (is_reserved x) refl named)

-- a sign
sign_test : (sign b : List ℕ) (t : Bool) → bytes_eq b sign ≡ t → t ≡ true → plain kind.Sign b ≡ sign_word sign
sign_test sign b t s e = ap sign_word (same_text b sign (s ∙ e))

sign_kind : (sign : List ℕ) (k : TokenKind) (b : List ℕ) → (is_sign_kind k && bytes_eq b sign) ≡ true → plain k b ≡ sign_word sign
sign_kind sign kind.Sign b e = sign_test sign b (bytes_eq b sign) refl e
sign_kind sign _ b e = absurd (cc)

pub sign_is : (sign : List ℕ) (w : Word) → is_sign sign w ≡ true → w ≡ sign_word sign
sign_is sign w e = sign_kind sign w.kind w.bytes e

sign_at : (sign : List ℕ) (w : Word) (ws rest : List Word) (t : Bool) → is_sign sign w ≡ t → (if t then Some ws else None) ≡ Some rest → w ∷ ws ≡ sign_word sign ∷ rest
sign_at sign w ws rest true s e = let h : ws ≡ rest = cc in ap (λ (z : Word). z ∷ ws) (sign_is sign w s) ∙ ap (λ (z : List Word). sign_word sign ∷ z) h
sign_at sign w ws rest false s e = absurd (cc)

pub sign_read : (sign : List ℕ) (ws rest : List Word) → sign_first sign ws ≡ Some rest → ws ≡ sign_word sign ∷ rest
sign_read sign [] rest e = absurd (cc)
sign_read sign (w ∷ ws) rest e = sign_at sign w ws rest (is_sign sign w) refl e

-- a number
number_kind : (k : TokenKind) (b : List ℕ) (n : ℕ) → number_of_kind k b ≡ Some n → (plain k b ≡ number_word n) × IsFew n
number_kind kind.Number b n e = let p = number_at b (digits_value 10 b) n _ _ refl refl e in (ap (plain kind.Number) p.0, p.1)
  where
    number_at : (b : List ℕ) (v n : ℕ) (s t : Bool) → bytes_eq b (decimal v) ≡ s → nat_lt v (10 ^ 7) ≡ t → tested v s t ≡ Some n → (b ≡ decimal n) × IsFew n
    number_at b v n true true same small e =
        let h : v ≡ n = cc in
        let lt : v < 10 ^ 7 = grind (arith, nat_tests) in
        (same_text b (decimal v) same ∙ ap decimal h, subst IsFew h lt)
    number_at b v n true false same small e = absurd (cc)
    number_at b v n false t same small e = absurd (cc)
number_kind _ b n e = absurd (cc)

pub number_is : (w : Word) (n : ℕ) → number_of w ≡ Some n → (w ≡ number_word n) × IsFew n
number_is w n e = number_kind w.kind w.bytes n e

pub number_read : (ws : List Word) (g : Got ℕ) → number_first ws ≡ Some g → (ws ≡ number_word g.value ∷ g.left) × IsFew g.value
number_read [] g e = absurd (cc)
number_read (w ∷ ws) g e =
    let m = mapped (λ (n : ℕ). got n ws) (number_of w) g e in
    let p = number_is w m.0 m.1 in
    subst (λ (z : Got ℕ). (w ∷ ws ≡ number_word z.value ∷ z.left) × IsFew z.value) m.2 (ap (λ (z : Word). z ∷ ws) p.0, p.1)

pub number_of_few : (n : ℕ) → IsFew n → number_of (number_word n) ≡ Some n
number_of_few n few = number_some (decimal n) n refl (omega arith) few

pub number_reads : (n : ℕ) (ws : List Word) → IsFew n → number_first (number_word n ∷ ws) ≡ Some (got n ws)
number_reads n ws few = ap (option_map (λ (z : ℕ). got z ws)) (number_of_few n few)
