-- Things that are spelled with commas between them, one after another.
use Rattle.std.proofs.Common.{◌≡◌, List, [], ◌∷◌, ◌++◌, map, refl, sym, ◌∙◌, ap, append_assoc}
use Rattle.syn_form.specs.declared.syntax.Mark.TheVariants as mark
use Rattle.syn_form.specs.declared.syntax.Lexeme.{Lexeme}
use Rattle.syn_form.specs.Grammar.{fixed, with_commas}

-- the words of each with a comma behind
abbrev pub before_next : {A : Type 0} → (A → List Lexeme) → List A → List Lexeme
before_next words [] = []
before_next words (x ∷ xs) = words x ++ fixed mark.Comma ∷ before_next words xs

module _ {A : Type 0} (words : A → List Lexeme) where
  pub before_next-last : (xs : List A) (x : A) → before_next words (xs ++ x ∷ []) ≡ before_next words xs ++ (words x ++ fixed mark.Comma ∷ [])
  before_next-last [] x = refl
  before_next-last (y ∷ ys) x = ap (λ (z : List Lexeme). words y ++ fixed mark.Comma ∷ z) (before_next-last ys x) ∙ sym (append_assoc (words y) (fixed mark.Comma ∷ before_next words ys) (words x ++ fixed mark.Comma ∷ []))

  -- the last has no comma behind
  pub commas-last : (xs : List A) (x : A) → with_commas (map words (xs ++ x ∷ [])) ≡ before_next words xs ++ words x
  commas-last [] x = refl
  commas-last (y ∷ []) x = sym (append_assoc (words y) (fixed mark.Comma ∷ []) (words x))
  commas-last (y ∷ z ∷ zs) x = ap (λ (v : List Lexeme). words y ++ fixed mark.Comma ∷ v) (commas-last (z ∷ zs) x) ∙ sym (append_assoc (words y) (fixed mark.Comma ∷ before_next words (z ∷ zs)) (words x))

  pub comma_behind-last : (xs : List A) (x : A) → before_next words (xs ++ x ∷ []) ≡ with_commas (map words (xs ++ x ∷ [])) ++ fixed mark.Comma ∷ []
  comma_behind-last xs x = before_next-last xs x ∙ (sym (append_assoc (before_next words xs) (words x) (fixed mark.Comma ∷ [])) ∙ ap (λ (z : List Lexeme). z ++ fixed mark.Comma ∷ []) (sym (commas-last xs x)))
