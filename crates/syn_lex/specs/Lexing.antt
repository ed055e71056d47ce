-- Public. The tokens of a line, by their places: which tokens a line has, and which byte is the first that begins nothing.
-- First by the grammar of tokens alone, then by the scanner's own account.
use Rattle.std.specs.Prelude.{◌≡◌, ℕ, ◌+◌, ◌-◌, ◌<◌, ◌≤◌, ◌⊎◌, ◌↔◌, List, [], ◌∷◌, IsTrue, length, drop, take, get_or, map}
use Rattle.std.specs.Str.{byte, IsUtf8}
use Rattle.syn_term.specs.Tokens.{gap, over, bad, token, starts, is_blank, Word, IsToken, IsCutOff, IsWholeToken, IsLongest, BeginsNothing, Spelled}
use Rattle.syn_term.specs.declared.tokens.TokenKind.{TokenKind}
use Rattle.syn_lex.specs.TextLines.{Without}
use Rattle.syn_lex.specs.declared.token.Token.{Token}
use Rattle.syn_lex.specs.declared.token.LexError.{LexError}
use Rattle.syn_lex.specs.declared.token.LexError.TheVariants as error

-- The bytes of a token in its line.
abbrev pub bytes_of : List ℕ → Token → List ℕ
bytes_of line t = take (t.to - t.from) (drop t.from line)

-- The token lies in the line; its bytes are a token of its kind and not cut off; and no longer front of what stands at its
-- place is a whole token of any kind.
pub record IsLongestToken (line : List ℕ) (t : Token) : Type 0 where
  pub some : t.from < t.to
  pub within : t.to ≤ length line
  pub token : IsToken t.kind (bytes_of line t)
  pub whole : ¬ (IsCutOff t.kind (drop t.from line) (t.to - t.from))
  pub longest : IsLongest (drop t.from line) (t.to - t.from)

-- Each byte from here to before the end is a space, a tab or a carriage return.
abbrev pub Blanks : List ℕ → ℕ → ℕ → Type 0
Blanks line at end = (q : ℕ) → at ≤ q → q < end → IsTrue (is_blank (get_or line q 0))

-- From here to the end these tokens stand in order, each the longest at its place, with blanks alone between.
abbrev pub Stand : List ℕ → ℕ → List Token → ℕ → Type 0
Stand line at [] end = (at ≤ end) × Blanks line at end
Stand line at (t ∷ ts) end = (at ≤ t.from) × Blanks line at t.from × IsLongestToken line t × Stand line t.to ts end

-- UTF-8 without a line feed.
abbrev pub IsCommentText : List ℕ → Type 0
IsCommentText bytes = IsUtf8 bytes × Without 10 bytes

-- A comment, up to the end of the line.
pub record IsComment (rest : List ℕ) : Type 0 where
  pub begins : get_or rest 0 0 ≡ byte "#"
  pub text : IsCommentText rest

-- A comment that breaks off behind n bytes, since the next is a line feed or no part of UTF-8.
pub record IsBrokenComment (rest : List ℕ) (n : ℕ) : Type 0 where
  pub begins : get_or rest 0 0 ≡ byte "#"
  pub text : IsCommentText (take n rest)
  pub breaks : (m : ℕ) → n < m → m ≤ length rest → ¬ (IsCommentText (take m rest))

-- The line is these tokens, with blanks alone between, and behind them nothing or a comment.
pub record IsTokens (line : List ℕ) (ts : List Token) : Type 0 where
  pub end : ℕ
  pub before : Stand line 0 ts end
  pub behind : (drop end line ≡ []) ⊎ IsComment (drop end line)

-- The byte at p is the first that begins nothing: tokens and blanks stand before it, and either no blank, comment or whole
-- token begins with it, or a comment breaks off before it.
pub record IsFirstBadByte (line : List ℕ) (p : ℕ) : Type 0 where
  pub within : p < length line
  pub tokens : List Token
  pub end : ℕ
  pub before : Stand line 0 tokens end
  pub bad : ((p ≡ end) × BeginsNothing (drop end line)) ⊎ ((end ≤ p) × IsBrokenComment (drop end line) (p - end))

-- Why a line is refused, by the grammar.
abbrev pub Faulty : List ℕ → LexError → Type 0
Faulty line (error.At p) = IsFirstBadByte line p
Faulty line error.NoMemory = Unit {0}

-- The scanner's own account, `starts`, says of the rest of a line what the grammar says: a token begins just where it is whole
-- and the longest, a blank where a blank byte stands, and the line is over where nothing is left or a comment.
pub record IsAccount (rest : List ℕ) : Type 0 where
  pub token : (k : TokenKind) (n : ℕ) → (starts rest ≡ token k n) ↔ (IsWholeToken k rest n × IsLongest rest n)
  pub blank : (starts rest ≡ gap) ↔ IsTrue (is_blank (get_or rest 0 0))
  pub over : (starts rest ≡ over) ↔ ((rest ≡ []) ⊎ IsComment rest)

-- All places from here to before the end are blanks.
abbrev pub Blank : List ℕ → ℕ → ℕ → Type 0
Blank line at end = (q : ℕ) → at ≤ q → q < end → starts (drop q line) ≡ gap

-- From this place to the end the tokens stand in order, each of its kind and length, with blanks between.
abbrev pub Spans : List ℕ → ℕ → List Token → ℕ → Type 0
Spans line at [] end = (at ≤ end) × Blank line at end
Spans line at (t ∷ ts) end = (at ≤ t.from) × Blank line at t.from × (starts (drop t.from line) ≡ token t.kind (t.to - t.from)) × (t.from < t.to) × Spans line t.to ts end

-- The line is these tokens, with blanks between them, and at the end at most a comment.
abbrev pub Lexed : List ℕ → List Token → Type 0
Lexed line ts = (end : ℕ) × Spans line 0 ts end × (starts (drop end line) ≡ over)

-- The byte at p is the first that begins no token, blank or comment: before it stand tokens, blanks, and at most a comment
-- of n bytes.
abbrev pub Stuck : List ℕ → ℕ → Type 0
Stuck line p = (ts : List Token) × (end n : ℕ) × Spans line 0 ts end × (starts (drop end line) ≡ bad n) × (p ≡ end + n) × (p < length line)

-- Why a line is refused: the first byte that begins nothing, or want of memory.
abbrev pub Refused : List ℕ → LexError → Type 0
Refused line (error.At p) = Stuck line p
Refused line error.NoMemory = Unit {0}

-- A line has one answer at most: one list of tokens, or one place that begins nothing.
pub record OneAnswer (line : List ℕ) : Type 0 where
  pub tokens : (ts us : List Token) → Lexed line ts → Lexed line us → ts ≡ us
  pub apart : (ts : List Token) (p : ℕ) → Lexed line ts → Stuck line p → ⊥
  pub place : (p q : ℕ) → Stuck line p → Stuck line q → p ≡ q

-- A token by itself, as a word of the line: its kind and its bytes.
abbrev pub word_of : List ℕ → Token → Word
word_of line t = record { kind = t.kind; bytes = bytes_of line t }

-- The tokens as words of the line.
abbrev pub words_of : List ℕ → List Token → List Word
words_of line = map (word_of line)

-- A word by its kind and its bytes.
abbrev pub word : TokenKind → List ℕ → Word
word k bytes = record { kind = k; bytes = bytes }

-- The word is a token of its kind.
abbrev pub IsTokenWord : Word → Type 0
IsTokenWord w = IsToken w.kind w.bytes

-- Where a byte begins nothing, the line is made of no words.
abbrev pub WithoutWords : List ℕ → LexError → Type 0
WithoutWords line (error.At p) = (words : List Word) → ¬ (Spelled line words)
WithoutWords line error.NoMemory = Unit {0}
