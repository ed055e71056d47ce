-- For public contracts: lines as words. A line is made of words with one space between.
use Rattle.std.specs.Prelude.{◌≡◌, ℕ, ◌<◌, List, [], ◌∷◌, ◌++◌, All, length}
use Rattle.syn_lex.specs.TextLines.{Without}

-- The words with one space between.
abbrev pub in_words : List (List ℕ) → List ℕ
in_words [] = []
in_words (w ∷ []) = w
in_words (w ∷ v ∷ more) = w ++ 32 ∷ in_words (v ∷ more)

-- The line is these words, of which none has a space.
pub record IsWords (line : List ℕ) (words : List (List ℕ)) : Type 0 where
  pub is : in_words words ≡ line
  pub some : 0 < length words
  pub clean : All (Without 32) words
