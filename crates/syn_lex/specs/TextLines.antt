-- Public. Files as lines, for every format whose files are read line by line: a file is a list of lines, each ended by a line
-- feed and counted from 1. A format is two definitions: which line extends which lines, and when none is missing.
use Rattle.std.specs.Prelude.{◌≡◌, ℕ, ◌+◌, ◌<◌, ◌≤◌, List, [], ◌∷◌, ◌++◌, All, length, take, slice_index_or}
use Rattle.std.specs.List.{flat_map}

-- The text has no such byte.
abbrev pub Without : ℕ → List ℕ → Type 0
Without b text = All (λ c. ¬ (c ≡ b)) text

-- The line and a line feed.
abbrev pub with_feed : List ℕ → List ℕ
with_feed line = line ++ 10 ∷ []

-- The bytes are these lines, each ended by a line feed, and then the rest, which has none.
pub record IsCut (bytes : List ℕ) (lines : List (List ℕ)) (rest : List ℕ) : Type 0 where
  pub is : flat_map with_feed lines ++ rest ≡ bytes
  pub clean : All (Without 10) lines
  pub open_clean : Without 10 rest

-- Bytes are cut in one way at most.
abbrev pub OneCut : List ℕ → Type 0
OneCut bytes = (lines others : List (List ℕ)) (rest more : List ℕ) → IsCut bytes lines rest → IsCut bytes others more → (lines ≡ others) × (rest ≡ more)

-- Line i, from 0, extends the lines before it; Extends says which lines extend which.
abbrev pub ExtendsAt : (List (List ℕ) → List ℕ → Type 0) → List (List ℕ) → ℕ → Type 0
ExtendsAt Extends lines i = Extends (take i lines) (slice_index_or lines i [])

-- The lines begin a text: each extends those before it.
abbrev pub BeginsText : (List (List ℕ) → List ℕ → Type 0) → List (List ℕ) → Type 0
BeginsText Extends lines = (i : ℕ) → i < length lines → ExtendsAt Extends lines i

-- The bytes are a text: lines that begin one, each ended by a line feed, and nothing is missing.
pub record IsText (Extends : List (List ℕ) → List ℕ → Type 0) (Whole : List (List ℕ) → Type 0) (bytes : List ℕ) : Type 0 where
  pub lines : List (List ℕ)
  pub cut : IsCut bytes lines []
  pub begins : BeginsText Extends lines
  pub whole : Whole lines

-- Line n, from 1, is the first that doesn't extend those before it, or the one after the last where the text ends too early;
-- bytes after the last line feed are a line that extends nothing.
pub record IsFirstBad (Extends : List (List ℕ) → List ℕ → Type 0) (Whole : List (List ℕ) → Type 0) (bytes : List ℕ) (n : ℕ) : Type 0 where
  pub lines : List (List ℕ)
  pub rest : List ℕ
  pub cut : IsCut bytes lines rest
  pub at : ℕ
  pub is : n ≡ at + 1
  pub within : at ≤ length lines
  pub before : (i : ℕ) → i < at → ExtendsAt Extends lines i
  pub bad : at < length lines → ¬ (ExtendsAt Extends lines at)
  pub early : at ≡ length lines → rest ≡ [] → ¬ (Whole lines)
