-- The test on a word finds exactly the reserved ones.
use Rattle.std.proofs.Common.{◌≡◌, ℕ, List, Bool, true, false, get_or, sym, subst, refl, Contains, true≢false}
use Rattle.std.specs.Str.{bytes_eq}
use Rattle.std.specs.List.{list_any}
use Rattle.std.proofs.lemmas.List.Folds.{Any-from_list_any, list_any-from_Any}
use Rattle.std.proofs.lemmas.Slice.Eq.{bytes_eq-Decides}
use Rattle.syn_term.specs.Names.{reserved}
use Rattle.syn_term.specs.Tokens.{is_reserved}

abbrev is : List ℕ → List ℕ → Bool
is text word = bytes_eq word text

-- a test finds a word in a list of words where the word is in it
pub found : (words : List (List ℕ)) (text : List ℕ) → list_any (λ word. bytes_eq word text) words ≡ true → Contains words text
found words text h =
    let at = Any-from_list_any (is text) words h in
    let same : at.1 ≡ text = (bytes_eq-Decides at.1 text).0 at.4 in
    (at.0, at.2, subst (λ (w : List ℕ). get_or words at.0 w ≡ w) same at.3)

-- and only there
pub finds : (words : List (List ℕ)) (text : List ℕ) → Contains words text → list_any (λ word. bytes_eq word text) words ≡ true
finds words text h = list_any-from_Any (is text) words (h.0, text, h.1, h.2, (bytes_eq-Decides text text).1 refl)

-- two tests of one thing answer the same
pub same_tests : (P : Type 0) (a b : Bool) → (a ≡ true → P) → (P → a ≡ true) → (b ≡ true → P) → (P → b ≡ true) → a ≡ b
same_tests P true b ap pa bp pb = sym (pb (ap refl))
same_tests P false false ap pa bp pb = refl
same_tests P false true ap pa bp pb = absurd (true≢false (sym (pa (bp refl))))

-- so a test that is true exactly of the reserved words is the one of the grammar
pub reserved_test : (b : Bool) (word : List ℕ) → (b ≡ true → Contains reserved word) → (Contains reserved word → b ≡ true) → b ≡ is_reserved word
reserved_test b word h k = same_tests (Contains reserved word) b (is_reserved word) h k (found reserved word) (finds reserved word)
