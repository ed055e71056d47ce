-- Lines of names with commas between: what is read of the words, and the other way round; and a line that begins with a known word.
use Rattle.std.proofs.Common.{◌≡◌, ℕ, Bool, true, false, List, [], ◌∷◌, ◌++◌, Option, None, Some, codes, if◌then◌else◌, refl, sym, ◌∙◌, ap, subst, append_assoc}
use Rattle.std.specs.Option.{option_map}
use Rattle.std.specs.Str.{bytes_eq}
use Rattle.std.proofs.lemmas.Option.{option_and_then_some}
use Rattle.syn_term.specs.Tokens.{Word}
use Rattle.syn_form.specs.Grammar.{name_word}
use Rattle.syn_files.specs.SpecLines.{name_words}
use Rattle.syn_files.specs.Words.{comma}
use Rattle.syn_files.specs.inner.Firsts.{Got, got, is_sign, name_first, name_of, sign_first, word_first}
use Rattle.syn_files.specs.inner.SpecWords.{names_line, names_on}
use Rattle.syn_files.proofs.FirstLaws.{name_read, same_text, sign_is, sign_read}

-- a known word
word_at : (x : List ℕ) (n : Got (List ℕ)) (rest : List Word) (t : Bool) → bytes_eq n.value x ≡ t → (if t then Some n.left else None) ≡ Some rest → name_word n.value ∷ n.left ≡ name_word x ∷ rest
word_at x n rest true same e = let h : n.left ≡ rest = cc in ap (λ (z : List ℕ). name_word z ∷ n.left) (same_text n.value x same) ∙ ap (λ (z : List Word). name_word x ∷ z) h
word_at x n rest false same e = absurd (cc)

pub word_read : (x : List ℕ) (ws rest : List Word) → word_first x ws ≡ Some rest → ws ≡ name_word x ∷ rest
word_read x ws rest e = option_and_then_some (λ (n : Got (List ℕ)). if bytes_eq n.value x then Some n.left else None) (name_first ws) rest e
    (λ n named k. name_read ws n named ∙ word_at x n rest (bytes_eq n.value x) refl k)

-- one name more
names_kept : (names : List (List ℕ)) (x : List ℕ) (o : Option (List (List ℕ))) → option_map (λ ns. (names ++ x ∷ []) ++ ns) o ≡ option_map (λ ns. names ++ ns) (option_map (λ ns. x ∷ ns) o)
names_kept names x None = refl
names_kept names x (Some ns) = ap Some (append_assoc names (x ∷ []) ns)

names_next : (ws l r : List Word) (x : List ℕ) → name_first ws ≡ Some (got x l) → sign_first (codes ",") l ≡ Some r → names_on None ws ≡ option_map (λ ns. x ∷ ns) (names_on None r)
names_next ws l r x named signed = ap (names_on None) (name_read ws (got x l) named ∙ ap (λ (z : List Word). name_word x ∷ z) (sign_read (codes ",") l r signed))

pub names_more : (names more : List (List ℕ)) (x : List ℕ) (ws l r : List Word) (whole : Option (List (List ℕ))) (b : Bool) → name_first ws ≡ Some (got x l) → sign_first (codes ",") l ≡ (if b then Some r else None) → b ≡ true → more ≡ names ++ x ∷ [] → option_map (λ ns. names ++ ns) (names_on None ws) ≡ whole → option_map (λ ns. more ++ ns) (names_on None r) ≡ whole
names_more names more x ws l r whole b named signed there is kept =
    let behind : sign_first (codes ",") l ≡ Some r = signed ∙ ap (λ (t : Bool). if t then Some r else None) there in
    ap (λ (z : List (List ℕ)). option_map (λ ns. z ++ ns) (names_on None r)) is
    ∙ (names_kept names x (names_on None r) ∙ (ap (option_map (λ ns. names ++ ns)) (sym (names_next ws l r x named behind)) ∙ kept))

-- names that stand behind one
abbrev name_tail : List (List ℕ) → List Word
name_tail [] = []
name_tail (x ∷ xs) = comma ∷ name_word x ∷ name_tail xs

names_are : (x : List ℕ) (xs : List (List ℕ)) → name_words (x ∷ xs) ≡ name_word x ∷ name_tail xs
names_are x [] = refl
names_are x (y ∷ ys) = ap (λ (z : List Word). name_word x ∷ comma ∷ z) (names_are y ys)

abbrev NamesSay : Option (List ℕ) → List Word → List (List ℕ) → Type 0
NamesSay None ws names = (x : List ℕ) × (xs : List (List ℕ)) × (names ≡ x ∷ xs) × (ws ≡ name_word x ∷ name_tail xs)
NamesSay (Some x) ws names = (xs : List (List ℕ)) × (names ≡ x ∷ xs) × (ws ≡ name_tail xs)

say_more : (x : List ℕ) (ws : List Word) (names : List (List ℕ)) (o : Option (List (List ℕ))) → ((r : List (List ℕ)) → o ≡ Some r → NamesSay None ws r) → option_map (λ xs. x ∷ xs) o ≡ Some names → NamesSay (Some x) (comma ∷ ws) names
say_more x ws names None k e = absurd (cc)
say_more x ws names (Some r) k e = let h : x ∷ r ≡ names = cc in let m = k r refl in (r, sym h, ap (λ (z : List Word). comma ∷ z) m.3 ∙ ap name_tail (sym m.2))

say_comma : (x : List ℕ) (w : Word) (ws : List Word) (names : List (List ℕ)) (t : Bool) → is_sign (codes ",") w ≡ t → ((r : List (List ℕ)) → names_on None ws ≡ Some r → NamesSay None ws r) → (if t then option_map (λ xs. x ∷ xs) (names_on None ws) else None) ≡ Some names → NamesSay (Some x) (w ∷ ws) names
say_comma x w ws names true there k e = subst (λ (z : Word). NamesSay (Some x) (z ∷ ws) names) (sym (sign_is (codes ",") w there)) (say_more x ws names (names_on None ws) k e)
say_comma x w ws names false there k e = absurd (cc)

abbrev first_word : Word → List Word → Word
first_word w [] = w
first_word w (v ∷ vs) = v

word_named : (w : Word) (x : List ℕ) → name_of w ≡ Some x → w ≡ name_word x
word_named w x e = ap (first_word w) (name_read (w ∷ []) (got x []) (ap (option_map (λ (y : List ℕ). got y [])) e))

names_say : (o : Option (List ℕ)) (ws : List Word) (names : List (List ℕ)) → names_on o ws ≡ Some names → NamesSay o ws names
names_say None [] names e = absurd (cc)
names_say (Some x) [] names e = let h : x ∷ [] ≡ names = cc in ([], sym h, refl)
names_say None (w ∷ ws) names e = option_and_then_some (λ (x : List ℕ). names_on (Some x) ws) (name_of w) names e
    (λ x is k. let m = names_say (Some x) ws names k in (x, m.0, m.1, ap (λ (z : Word). z ∷ ws) (word_named w x is) ∙ ap (λ (z : List Word). name_word x ∷ z) m.2))
names_say (Some x) (w ∷ ws) names e = say_comma x w ws names (is_sign (codes ",") w) refl (λ r k. names_say None ws r k) e

pub names_read : (ws : List Word) (names : List (List ℕ)) → names_line ws ≡ Some names → ws ≡ name_words names
names_read [] names e = let h : [] ≡ names = cc in ap name_words h
names_read (w ∷ ws) names e =
    let m = names_say None (w ∷ ws) names e in m.3 ∙ (sym (names_are m.0 m.1) ∙ ap name_words (sym m.2))

on_reads : (x : List ℕ) (xs : List (List ℕ)) → names_on (Some x) (name_tail xs) ≡ Some (x ∷ xs)
on_reads x [] = refl
on_reads x (y ∷ ys) = ap (option_map (λ xs. x ∷ xs)) (on_reads y ys)

pub names_reads : (names : List (List ℕ)) → names_line (name_words names) ≡ Some names
names_reads [] = refl
names_reads (x ∷ xs) = ap names_line (names_are x xs) ∙ on_reads x xs
