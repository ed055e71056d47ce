-- Public. Texts whose lines lead from state to state, for every format that is read line by line. A format is a state to begin
-- with, a relation that says which line leads from which state to which, and the states in which nothing is missing.
use Rattle.std.specs.Prelude.{◌≡◌, ℕ, List, [], ◌∷◌, Result, Ok, Err}
use Rattle.syn_lex.specs.declared.lines.FileError.{FileError}
use Rattle.syn_lex.specs.declared.lines.FileError.TheVariants as error
use Rattle.syn_lex.specs.TextLines.{IsCut, IsFirstBad}

-- A line, by its bytes, leads from a state to a state.
abbrev pub Step : Type 0 → Type 1
Step S = S → List ℕ → S → Type 0

-- The lines, one after another, lead from the one state to the other.
abbrev pub Lead : {S : Type 0} → Step S → S → List (List ℕ) → S → Type 0
Lead step s [] t = s ≡ t
Lead {S} step s (line ∷ lines) t = (m : S) × step s line m × Lead step m lines t

-- A line extends lines where these lead to a state from which it leads on.
abbrev pub Extends : {S : Type 0} → Step S → S → List (List ℕ) → List ℕ → Type 0
Extends {S} step start lines line = (s t : S) × Lead step start lines s × step s line t

-- Nothing is missing where the lines lead to such a state.
abbrev pub Ends : {S : Type 0} → Step S → S → (S → Type 0) → List (List ℕ) → Type 0
Ends {S} step start Whole lines = (s : S) × Lead step start lines s × Whole s

-- The bytes are lines, each ended by a line feed, that lead from the start to this state, in which nothing is missing.
pub record IsTextOf {S : Type 0} (step : Step S) (start : S) (Whole : S → Type 0) (bytes : List ℕ) (s : S) : Type 0 where
  pub lines : List (List ℕ)
  pub cut : IsCut bytes lines []
  pub led : Lead step start lines s
  pub whole : Whole s

-- What a reader of such a text answers: what the text stands for, or the first line that is bad; `seen` is a value's state.
abbrev pub ReadsText : {S T : Type 0} → Step S → S → (S → Type 0) → (T → S) → List ℕ → Result T FileError → Type 0
ReadsText step start Whole seen bytes (Ok t) = IsTextOf step start Whole bytes (seen t)
ReadsText step start Whole seen bytes (Err (error.Bad n)) = IsFirstBad (Extends step start) (Ends step start Whole) bytes n
ReadsText step start Whole seen bytes (Err error.NoMemory) = Unit {0}

-- The bytes stand for one state at most.
abbrev pub OneText : {S : Type 0} → Step S → S → (S → Type 0) → List ℕ → Type 0
OneText {S} step start Whole bytes = (s t : S) → IsTextOf step start Whole bytes s → IsTextOf step start Whole bytes t → s ≡ t
