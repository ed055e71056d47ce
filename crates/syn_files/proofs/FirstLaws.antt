-- What stands at the front of words, and the other way round: words that begin so are read so.
use Rattle.std.proofs.Common.{◌≡◌, ℕ, ◌≤◌, Bool, true, false, ◌&&◌, List, [], ◌∷◌, ◌++◌, Option, None, Some, codes, if◌then◌else◌, inl, inr, length, refl, sym, ◌∙◌, ap, subst, append_assoc, arith}
use Rattle.std.specs.Option.{option_and_then, option_map}
use Rattle.std.specs.Str.{IsUtf8, bytes_eq}
use Rattle.std.proofs.lemmas.Slice.Eq.{bytes_eq-Decides}
use Rattle.std.proofs.lemmas.Option.{option_and_then_some}
use Rattle.syn_term.specs.declared.sorts.Sort.{Sort}
use Rattle.syn_term.specs.declared.tokens.TokenKind.{TokenKind}
use Rattle.syn_term.specs.declared.tokens.TokenKind.TheVariants as kind
use Rattle.syn_term.specs.DeclaredSorts.{sort_named}
use Rattle.syn_term.specs.Symbols.{SymbolTable}
use Rattle.syn_term.specs.Tokens.{Word, IsToken}
use Rattle.syn_term.proofs.ReservedWords.{reserved_word}
use Rattle.syn_form.specs.Grammar.{name_word, sign_word}
use Rattle.syn_files.specs.Words.{WriteSorts, WritesSort, bracketed, comma, listed_words, singly}
use Rattle.syn_files.specs.inner.Firsts.{Got, got, ended, is_sign, is_sign_kind, name_first, name_of, name_of_kind, sign_first, sort_first, sorts_first, sorts_on, with_sort, word_first}

abbrev plain : TokenKind → List ℕ → Word
plain k b = record { kind = k; bytes = b }

abbrev close : Word
close = sign_word (codes ")")

pub same_text : (x y : List ℕ) → bytes_eq x y ≡ true → x ≡ y
same_text x y e = (bytes_eq-Decides x y).0 e

pub text_itself : (x : List ℕ) → bytes_eq x x ≡ true
text_itself x = (bytes_eq-Decides x x).1 refl

-- what is no text is no name
pub no_name : (k : TokenKind) (b : List ℕ) → IsToken k b → (IsUtf8 b → ⊥) → name_of_kind k b ≡ None
no_name kind.Name b is unread = elim is [ inl named ↦ absurd (unread named.text) | inr r ↦ absurd (unread (reserved_word b r).0.text) ]
no_name _ b is unread = refl

-- a name
name_kind : (k : TokenKind) (b : List ℕ) (ws : List Word) (g : Got (List ℕ)) → option_map (λ x. got x ws) (name_of_kind k b) ≡ Some g → plain k b ∷ ws ≡ name_word g.value ∷ g.left
name_kind kind.Name b ws g e = let h : got b ws ≡ g = cc in ap (λ (z : Got (List ℕ)). name_word z.value ∷ z.left) h
name_kind _ b ws g e = absurd (cc)

pub name_read : (ws : List Word) (g : Got (List ℕ)) → name_first ws ≡ Some g → ws ≡ name_word g.value ∷ g.left
name_read [] g e = absurd (cc)
name_read (w ∷ ws) g e = name_kind w.kind w.bytes ws g e

-- a known word
word_at : (x : List ℕ) (n : Got (List ℕ)) (rest : List Word) (t : Bool) → bytes_eq n.value x ≡ t → (if t then Some n.left else None) ≡ Some rest → name_word n.value ∷ n.left ≡ name_word x ∷ rest
word_at x n rest true same e = let h : n.left ≡ rest = cc in ap (λ (z : List ℕ). name_word z ∷ n.left) (same_text n.value x same) ∙ ap (λ (z : List Word). name_word x ∷ z) h
word_at x n rest false same e = absurd (cc)

pub word_read : (x : List ℕ) (ws rest : List Word) → word_first x ws ≡ Some rest → ws ≡ name_word x ∷ rest
word_read x ws rest e = option_and_then_some (λ (n : Got (List ℕ)). if bytes_eq n.value x then Some n.left else None) (name_first ws) rest e
    (λ n named k. name_read ws n named ∙ word_at x n rest (bytes_eq n.value x) refl k)

-- a sign
sign_test : (sign b : List ℕ) (t : Bool) → bytes_eq b sign ≡ t → t ≡ true → plain kind.Sign b ≡ sign_word sign
sign_test sign b t s e = ap sign_word (same_text b sign (s ∙ e))

sign_kind : (sign : List ℕ) (k : TokenKind) (b : List ℕ) → (is_sign_kind k && bytes_eq b sign) ≡ true → plain k b ≡ sign_word sign
sign_kind sign kind.Sign b e = sign_test sign b (bytes_eq b sign) refl e
sign_kind sign _ b e = absurd (cc)

pub sign_is : (sign : List ℕ) (w : Word) → is_sign sign w ≡ true → w ≡ sign_word sign
sign_is sign w e = sign_kind sign w.kind w.bytes e

sign_at : (sign : List ℕ) (w : Word) (ws rest : List Word) (t : Bool) → is_sign sign w ≡ t → (if t then Some ws else None) ≡ Some rest → w ∷ ws ≡ sign_word sign ∷ rest
sign_at sign w ws rest true s e = let h : ws ≡ rest = cc in ap (λ (z : Word). z ∷ ws) (sign_is sign w s) ∙ ap (λ (z : List Word). sign_word sign ∷ z) h
sign_at sign w ws rest false s e = absurd (cc)

pub sign_read : (sign : List ℕ) (ws rest : List Word) → sign_first sign ws ≡ Some rest → ws ≡ sign_word sign ∷ rest
sign_read sign [] rest e = absurd (cc)
sign_read sign (w ∷ ws) rest e = sign_at sign w ws rest (is_sign sign w) refl e

pub ended_read : {A : Type 0} (ws : List Word) (a b : A) → ended ws a ≡ Some b → (ws ≡ []) × (a ≡ b)
ended_read [] a b e = (refl, cc)
ended_read (w ∷ ws) a b e = absurd (cc)

module _ (table : SymbolTable) where
  -- a sort
  sort_kind : (k : TokenKind) (b : List ℕ) (s : Sort) → option_and_then (sort_named table) (name_of_kind k b) ≡ Some s → WritesSort table s (plain k b)
  sort_kind kind.Name b s e = (b, e, refl)
  sort_kind _ b s e = absurd (cc)

  sort_got : (ws : List Word) (x : Got (List ℕ)) (g : Got Sort) (o : Option Sort) → ws ≡ name_word x.value ∷ x.left → sort_named table x.value ≡ o → option_map (λ s. got s x.left) o ≡ Some g → (w : Word) × WritesSort table g.value w × (ws ≡ w ∷ g.left)
  sort_got ws x g None is named e = absurd (cc)
  sort_got ws x g (Some s) is named e =
      let h : got s x.left ≡ g = cc in
      (name_word x.value, (x.value, named ∙ ap (λ (z : Got Sort). Some z.value) h, refl), is ∙ ap (λ (z : Got Sort). name_word x.value ∷ z.left) h)

  pub sort_read : (ws : List Word) (g : Got Sort) → sort_first table ws ≡ Some g → (w : Word) × WritesSort table g.value w × (ws ≡ w ∷ g.left)
  sort_read ws g e = option_and_then_some (λ (x : Got (List ℕ)). option_map (λ s. got s x.left) (sort_named table x.value)) (name_first ws) g e
      (λ x is k. sort_got ws x g (sort_named table x.value) (name_read ws x is) refl k)

  sort_found : (w : Word) (s : Sort) → WritesSort table s w → option_and_then (sort_named table) (name_of w) ≡ Some s
  sort_found w s h = ap (λ (z : Word). option_and_then (sort_named table) (name_of z)) h.2 ∙ h.1

  pub sort_reads : (w : Word) (s : Sort) (rest : List Word) → WritesSort table s w → sort_first table (w ∷ rest) ≡ Some (got s rest)
  sort_reads w s rest h =
      ap (λ (z : Word). sort_first table (z ∷ rest)) h.2 ∙ ap (λ (o : Option Sort). option_map (λ s. got s rest) o) h.1

  -- the words behind a sort
  abbrev tail_words : List Word → List Word
  tail_words [] = []
  tail_words (u ∷ us) = comma ∷ u ∷ tail_words us

  listed : (u : Word) (us : List Word) → listed_words (singly (u ∷ us)) ≡ u ∷ tail_words us
  listed u [] = refl
  listed u (v ∷ vs) = ap (λ (z : List Word). u ∷ comma ∷ z) (listed v vs)

  abbrev Says : Option Sort → List Word → Got (List Sort) → Type 0
  Says None ws g = (u : Word) × (us : List Word) × WriteSorts table g.value (u ∷ us) × (ws ≡ u ∷ (tail_words us ++ close ∷ g.left))
  Says (Some s) ws g = (ss : List Sort) × (us : List Word) × (g.value ≡ s ∷ ss) × WriteSorts table ss us × (ws ≡ tail_words us ++ close ∷ g.left)

  says_first : (w : Word) (ws : List Word) (s : Sort) (g : Got (List Sort)) → WritesSort table s w → Says (Some s) ws g → Says None (w ∷ ws) g
  says_first w ws s g sort h = (w, h.1, subst (λ (z : List Sort). WriteSorts table z (w ∷ h.1)) (sym h.2) (sort, h.3), ap (λ (z : List Word). w ∷ z) h.4)

  says_more : (s : Sort) (ws : List Word) (g : Got (List Sort)) (o : Option (Got (List Sort))) → ((r : Got (List Sort)) → o ≡ Some r → Says None ws r) → option_map (with_sort s) o ≡ Some g → Says (Some s) (comma ∷ ws) g
  says_more s ws g None k e = absurd (cc)
  says_more s ws g (Some r) k e =
      let h : with_sort s r ≡ g = cc in
      let p = k r refl in
      (r.value, p.0 ∷ p.1, sym (ap (λ (z : Got (List Sort)). z.value) h), p.2, ap (λ (z : List Word). comma ∷ z) p.3 ∙ ap (λ (z : Got (List Sort)). comma ∷ p.0 ∷ (tail_words p.1 ++ close ∷ z.left)) h)

  says_comma : (s : Sort) (w : Word) (ws : List Word) (g : Got (List Sort)) (t : Bool) → is_sign (codes ",") w ≡ t → ((r : Got (List Sort)) → sorts_on table None ws ≡ Some r → Says None ws r) → (if t then option_map (with_sort s) (sorts_on table None ws) else None) ≡ Some g → Says (Some s) (w ∷ ws) g
  says_comma s w ws g true there k e = subst (λ (z : Word). Says (Some s) (z ∷ ws) g) (sym (sign_is (codes ",") w there)) (says_more s ws g (sorts_on table None ws) k e)
  says_comma s w ws g false there k e = absurd (cc)

  says_close : (s : Sort) (w : Word) (ws : List Word) (g : Got (List Sort)) (t : Bool) → is_sign (codes ")") w ≡ t → ((r : Got (List Sort)) → sorts_on table None ws ≡ Some r → Says None ws r) → (if t then Some (got (s ∷ []) ws) else (if is_sign (codes ",") w then option_map (with_sort s) (sorts_on table None ws) else None)) ≡ Some g → Says (Some s) (w ∷ ws) g
  says_close s w ws g true there k e =
      let h : got (s ∷ []) ws ≡ g = cc in
      ([], [], sym (ap (λ (z : Got (List Sort)). z.value) h), tt, ap (λ (z : Word). z ∷ ws) (sign_is (codes ")") w there) ∙ ap (λ (z : Got (List Sort)). close ∷ z.left) h)
  says_close s w ws g false there k e = says_comma s w ws g (is_sign (codes ",") w) refl k e

  says : (last : Option Sort) (ws : List Word) (g : Got (List Sort)) → sorts_on table last ws ≡ Some g → Says last ws g
  says None [] g e = absurd (cc)
  says (Some s) [] g e = absurd (cc)
  says None (w ∷ ws) g e = option_and_then_some (λ (s : Sort). sorts_on table (Some s) ws) (option_and_then (sort_named table) (name_of w)) g e
      (λ s is k. says_first w ws s g (sort_kind w.kind w.bytes s is) (says (Some s) ws g k))
  says (Some s) (w ∷ ws) g e = says_close s w ws g (is_sign (codes ")") w) refl (λ r k. says None ws r k) e

  -- sorts in brackets
  pub sorts_read : (ws : List Word) (g : Got (List Sort)) → sorts_first table ws ≡ Some g → (us : List Word) × WriteSorts table g.value us × (ws ≡ bracketed (listed_words (singly us)) ++ g.left)
  sorts_read ws g e = option_and_then_some (sorts_on table None) (sign_first (codes "(") ws) g e
      (λ rest is k.
      let p = says None rest g k in
      let all : listed_words (singly (p.0 ∷ p.1)) ≡ p.0 ∷ tail_words p.1 = listed p.0 p.1 in
      let join : (p.0 ∷ tail_words p.1) ++ close ∷ g.left ≡ ((p.0 ∷ tail_words p.1) ++ close ∷ []) ++ g.left = sym (append_assoc (p.0 ∷ tail_words p.1) (close ∷ []) g.left) in (
        p.0 ∷ p.1,
        p.2,
        sign_read (codes "(") ws rest is ∙ ap (λ (z : List Word). sign_word (codes "(") ∷ z) (p.3 ∙ (join ∙ ap (λ (z : List Word). (z ++ close ∷ []) ++ g.left) (sym all))),
      ))

  on_sorts : (us : List Word) (s : Sort) (ss : List Sort) (rest : List Word) → WriteSorts table ss us → sorts_on table (Some s) (tail_words us ++ close ∷ rest) ≡ Some (got (s ∷ ss) rest)
  on_sorts [] s [] rest h = refl
  on_sorts [] s (r ∷ ss) rest h = absurd h
  on_sorts (u ∷ us) s [] rest h = absurd h
  on_sorts (u ∷ us) s (r ∷ ss) rest h =
      ap (λ (o : Option Sort). option_map (with_sort s) (option_and_then (λ t. sorts_on table (Some t) (tail_words us ++ close ∷ rest)) o)) (sort_found u r h.0)
      ∙ ap (option_map (with_sort s)) (on_sorts us r ss rest h.1)

  pub sorts_reads : (us : List Word) (ss : List Sort) (rest : List Word) → WriteSorts table ss us → 1 ≤ length ss → sorts_first table (bracketed (listed_words (singly us)) ++ rest) ≡ Some (got ss rest)
  sorts_reads [] [] rest h some = absurd (omega arith)
  sorts_reads [] (s ∷ ss) rest h some = absurd h
  sorts_reads (u ∷ us) [] rest h some = absurd h
  sorts_reads (u ∷ us) (s ∷ ss) rest h some =
      ap (λ (z : List Word). sorts_on table None ((z ++ close ∷ []) ++ rest)) (listed u us)
      ∙ (ap (λ (z : List Word). sorts_on table None z) (append_assoc (u ∷ tail_words us) (close ∷ []) rest)
      ∙ (ap (λ (o : Option Sort). option_and_then (λ t. sorts_on table (Some t) (tail_words us ++ close ∷ rest)) o) (sort_found u s h.0)
      ∙ on_sorts us s ss rest h.1))
