-- The parts of a clause line: the cut at its sign, and its arguments.
use Rattle.std.proofs.Common.{◌≡◌, ℕ, zero, suc, ◌+◌, ◌<◌, List, [], ◌∷◌, ◌++◌, All, Some, drop, take, get_or, length, slice_get, ◌∙◌, ap, arith}
use Rattle.std.proofs.lemmas.List.Elements.{All-more}
use Rattle.std.proofs.lemmas.Option.{slice_get-get_or}
use Rattle.syn_term.specs.Tokens.{Word}
use Rattle.syn_form.specs.Grammar.{sign_word}
use Rattle.syn_files.specs.inner.ClauseReading.{IsCut, IsOther}

one_more : (k : ℕ) → suc k ≡ k + 1
one_more k = omega arith

-- a list is what stands before an item of it, the item, and what stands behind
cut_at : {A : Type 0} (xs : List A) (k : ℕ) (x : A) → slice_get xs k ≡ Some x → xs ≡ take k xs ++ x ∷ drop (suc k) xs
cut_at [] k x e = absurd (cc)
cut_at (y ∷ ys) zero x e = let h : y ≡ x = cc in ap (λ z. z ∷ ys) h
cut_at (y ∷ ys) (suc k) x e = ap (λ zs. y ∷ zs) (cut_at ys k x e)

pub cut_made : (sign : List ℕ) (words : List Word) (k : ℕ) → All (IsOther sign) (take k words) → slice_get words k ≡ Some (sign_word sign) → IsCut sign words (take k words) (drop (k + 1) words)
cut_made sign words k others e = record { others = others; is = cut_at words k (sign_word sign) e ∙ ap (λ n. take k words ++ sign_word sign ∷ drop n words) (one_more k) }

pub others_more : (sign : List ℕ) (words : List Word) (k : ℕ) → k < length words → ((w : Word) → slice_get words k ≡ Some w → IsOther sign w) → All (IsOther sign) (take k words) → All (IsOther sign) (take (k + 1) words)
others_more sign words k lt other h = All-more (IsOther sign) words k (sign_word sign) lt h (other (get_or words k (sign_word sign)) (slice_get-get_or words k (sign_word sign) lt))
