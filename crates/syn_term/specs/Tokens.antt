-- Public. The grammar of tokens: which bytes are a token of which kind, what begins at a place of a line, and which tokens a line
-- is made of.
use Rattle.std.specs.Prelude.{◌≡◌, ℕ, ◌+◌, ◌<◌, ◌≤◌, ◌^◌, ◌⊎◌, Bool, IsTrue, cond, not, ◌&&◌, ◌||◌, List, [], ◌∷◌, ◌++◌, All, Contains, codes, decimal, length, get_or, take, drop, nat_eq, nat_lt}
use Rattle.std.specs.Char.{encode_utf8, is_ascii_digit}
use Rattle.std.specs.Str.{byte, chars, bytes_eq}
use Rattle.std.specs.Str.Lossy.{utf8_valid_len}
use Rattle.std.specs.List.{prefix_len, list_any}
use Rattle.unicode_ident.specs.Ident.{is_xid_start, is_xid_continue}
use Rattle.syn_term.specs.Names.{reserved, IsName, IsNumber, IsSkolemName}
use Rattle.syn_term.specs.declared.tokens.TokenKind.{TokenKind}
use Rattle.syn_term.specs.declared.tokens.TokenKind.TheVariants as kind

-- The signs.
abbrev pub signs : List (List ℕ)
signs =
    codes "(" ∷ codes ")" ∷ codes "," ∷ codes ":" ∷ codes "." ∷ codes "|" ∷ codes "=" ∷ codes "-" ∷ codes "->" ∷ codes "<->" ∷ []

-- The digits of a number below ten million, with no zero before others.
abbrev pub IsDigits : List ℕ → Type 0
IsDigits bytes = (number : ℕ) × (number < 10 ^ 7) × (bytes ≡ decimal number)

-- The sort of a row variable is not written, or a colon and a name.
abbrev pub IsWrittenSort : List ℕ → Type 0
IsWrittenSort bytes = (bytes ≡ []) ⊎ ((name : List ℕ) × IsName name × (bytes ≡ codes ":" ++ name))

-- A row variable is a question mark, a number from 1, and its sort, where one is written: `?1` and `?2:list`.
pub record IsRowVariable (bytes : List ℕ) : Type 0 where
  pub number : List ℕ
  pub sort : List ℕ
  pub numbered : IsNumber number
  pub sorted : IsWrittenSort sort
  pub is : bytes ≡ codes "?" ++ number ++ sort

-- The bytes are a token of the kind: a name or a reserved word; a number; a row variable; a Skolem symbol; a sign.
abbrev pub IsToken : TokenKind → List ℕ → Type 0
IsToken kind.Name bytes = IsName bytes ⊎ Contains reserved bytes
IsToken kind.Number bytes = IsDigits bytes
IsToken kind.RowVar bytes = IsRowVariable bytes
IsToken kind.Skolem bytes = IsSkolemName bytes
IsToken kind.Sign bytes = Contains signs bytes

-- The characters that the bytes begin with: those of their longest front that is UTF-8.
abbrev pub front_chars : List ℕ → List ℕ
front_chars bytes = chars (take (utf8_valid_len bytes) bytes)

-- The first character is there, and may continue a name.
abbrev pub Continues : List ℕ → Type 0
Continues [] = ⊥
Continues (c ∷ cs) = IsTrue (is_xid_continue c)

-- Behind the first m bytes stands a character that may continue a name.
abbrev pub WordGoesOn : List ℕ → ℕ → Type 0
WordGoesOn rest m = Continues (front_chars (drop m rest))

-- Behind the first m bytes stands a digit.
abbrev pub DigitGoesOn : List ℕ → ℕ → Type 0
DigitGoesOn rest m = IsTrue (is_ascii_digit (get_or (drop m rest) 0 0))

-- The first m bytes are a row variable that is cut off in its number, where it has no sort, or else in its sort.
pub record IsCutRow (rest : List ℕ) (m : ℕ) : Type 0 where
  pub row : IsRowVariable (take m rest)
  pub cut : ((row.sort ≡ []) × DigitGoesOn rest m) ⊎ ((0 < length row.sort) × WordGoesOn rest m)

-- The first m bytes, a token of the kind, are cut off in the middle of a word or a number: `na` of `nat`, `12` of `123`,
-- `?1:na` of `?1:nat`, `!gap.1` of `!gap.12`.
abbrev pub IsCutOff : TokenKind → List ℕ → ℕ → Type 0
IsCutOff kind.Name rest m = WordGoesOn rest m
IsCutOff kind.Number rest m = DigitGoesOn rest m
IsCutOff kind.RowVar rest m = IsCutRow rest m
IsCutOff kind.Skolem rest m = DigitGoesOn rest m
IsCutOff kind.Sign rest m = ⊥

-- The first m bytes are a token of the kind, and it is not cut off.
pub record IsWholeToken (k : TokenKind) (rest : List ℕ) (m : ℕ) : Type 0 where
  pub within : m ≤ length rest
  pub token : IsToken k (take m rest)
  pub whole : ¬ (IsCutOff k rest m)

-- No front of more than n bytes is a whole token of any kind.
abbrev pub IsLongest : List ℕ → ℕ → Type 0
IsLongest rest n = (k : TokenKind) (m : ℕ) → IsWholeToken k rest m → m ≤ n

-- Space, tab and carriage return.
abbrev pub is_blank : ℕ → Bool
is_blank b = nat_eq b 32 || (nat_eq b 9 || nat_eq b 13)

-- Neither a blank nor a comment begins here, and no front is a whole token of any kind.
pub record BeginsNothing (rest : List ℕ) : Type 0 where
  pub no_blank : ¬ (IsTrue (is_blank (get_or rest 0 0)))
  pub no_comment : ¬ (get_or rest 0 0 ≡ byte "#")
  pub no_token : (k : TokenKind) (m : ℕ) → ¬ (IsWholeToken k rest m)

-- The scanner's own account of what begins at a place, `starts`: it tells kinds by the first byte and lengths by counting.

-- What begins at a place: a blank (`gap`); nothing more, or a comment up to the end (`over`); a token of a kind, which has so
-- many bytes; or nothing, and then the first byte that begins nothing stands so many bytes further on (`bad`).
pub data Start : Type 0 where
  gap : Start
  over : Start
  bad : ℕ → Start
  token : TokenKind → ℕ → Start

-- A length within the limit; a longer run begins no token, which the length 0 says.
abbrev pub at_most : ℕ → ℕ → ℕ
at_most limit n = cond (nat_lt limit n) 0 n

-- The bytes of the characters up to the first that doesn't continue a name.
abbrev pub run_len : List ℕ → ℕ
run_len [] = 0
run_len (c ∷ cs) = cond (is_xid_continue c) (length (encode_utf8 c) + run_len cs) 0

-- The bytes of the name at the front of the characters, 0 where the first doesn't start a name.
abbrev pub word_len : List ℕ → ℕ
word_len [] = 0
word_len (c ∷ cs) = cond (is_xid_start c) (run_len (c ∷ cs)) 0

-- The length of the name that begins here, a reserved word or not. A longer run than 64 bytes is none.
unfoldable pub name_len : List ℕ → ℕ
name_len rest = at_most 64 (word_len (front_chars rest))

-- The word is one of those that no symbol may have as its name.
abbrev pub is_reserved : List ℕ → Bool
is_reserved word = list_any (λ other. bytes_eq other word) reserved

-- The name that begins here, where it is no reserved word.
unfoldable pub free_name_len : List ℕ → ℕ
free_name_len rest = cond (is_reserved (take (name_len rest) rest)) 0 (name_len rest)

-- The tag that begins here: `goal`, `induct` or a name that is no reserved word.
unfoldable pub tag_len : List ℕ → ℕ
tag_len rest = cond (bytes_eq (take (name_len rest) rest) (codes "goal") || bytes_eq (take (name_len rest) rest) (codes "induct")) (name_len rest) (free_name_len rest)

-- How many ASCII digits stand at the front.
abbrev pub digits : List ℕ → ℕ
digits = prefix_len is_ascii_digit

-- The number that begins here: all the digits, at most seven, without a zero before others.
unfoldable pub number_len : List ℕ → ℕ
number_len rest = cond (nat_eq (get_or rest 0 0) (byte "0") && nat_lt 1 (digits rest)) 0 (at_most 7 (digits rest))

-- The number from 1 that begins here.
unfoldable pub counted_len : List ℕ → ℕ
counted_len rest = cond (nat_eq (get_or rest 0 0) (byte "0")) 0 (at_most 7 (digits rest))

-- Both lengths together, where what comes second begins at all.
abbrev pub joined : ℕ → ℕ → ℕ
joined before n = cond (nat_eq n 0) 0 (before + n)

-- A colon and a name that is no reserved word, where they follow.
unfoldable pub sort_len : List ℕ → ℕ
sort_len rest = cond (nat_eq (get_or rest 0 0) (byte ":")) (joined 1 (free_name_len (drop 1 rest))) 0

-- A row variable, from its question mark on: a number from 1 follows, and then its sort, where one is written.
unfoldable pub row_len : List ℕ → ℕ
row_len rest = joined (1 + sort_len (drop (1 + counted_len (drop 1 rest)) rest)) (counted_len (drop 1 rest))

-- The full stop and the number from 1 that end a Skolem symbol.
unfoldable pub stop_len : List ℕ → ℕ
stop_len rest = cond (nat_eq (get_or rest 0 0) (byte ".")) (joined 1 (counted_len (drop 1 rest))) 0

-- The length of a Skolem symbol whose tag has n bytes.
abbrev pub tagged : ℕ → List ℕ → ℕ
tagged n rest = cond (nat_eq n 0) 0 (joined (1 + n) (stop_len (drop (1 + n) rest)))

-- A Skolem symbol, from its exclamation mark on: a tag, a full stop and a number from 1 follow.
unfoldable pub skolem_len : List ℕ → ℕ
skolem_len rest = tagged (tag_len (drop 1 rest)) rest

-- A sign of one byte that begins no longer one.
abbrev pub is_single_sign : ℕ → Bool
is_single_sign b = list_any (λ sign. nat_eq sign b) (codes "(),:.|=")

-- The longest sign that begins with these three bytes.
abbrev pub sign_of : ℕ → ℕ → ℕ → ℕ
sign_of b c d = cond (is_single_sign b) 1 (cond (nat_eq b (byte "-")) (cond (nat_eq c (byte ">")) 2 1) (cond (nat_eq b (byte "<") && (nat_eq c (byte "-") && nat_eq d (byte ">"))) 3 0))

-- The sign that begins here; past the end of the line a byte counts as 0.
unfoldable pub sign_len : List ℕ → ℕ
sign_len rest = sign_of (get_or rest 0 0) (get_or rest 1 0) (get_or rest 2 0)

-- A token of this kind and length, or nothing where the length is 0.
abbrev pub some_token : TokenKind → ℕ → Start
some_token k n = cond (nat_eq n 0) (bad 0) (token k n)

-- The token whose first byte is b.
unfoldable pub token_at : List ℕ → ℕ → Start
token_at rest b =
    cond (is_ascii_digit b) (some_token kind.Number (number_len rest))
    (cond (nat_eq b (byte "?")) (some_token kind.RowVar (row_len rest))
    (cond (nat_eq b (byte "!")) (some_token kind.Skolem (skolem_len rest))
    (cond (nat_eq (sign_len rest) 0) (some_token kind.Name (name_len rest)) (token kind.Sign (sign_len rest)))))

-- Any byte but a line feed.
abbrev pub is_in_line : ℕ → Bool
is_in_line b = not (nat_eq b 10)

-- How many bytes stand before the first line feed, or up to the end.
abbrev pub line_len : List ℕ → ℕ
line_len = prefix_len is_in_line

-- The bytes of a comment: the longest front that is UTF-8 and has no line feed.
unfoldable pub comment_len : List ℕ → ℕ
comment_len rest = utf8_valid_len (take (line_len rest) rest)

-- A comment of n bytes: it goes up to the end of the line, or ends before a line feed or a byte that is no part of a text,
-- which begins nothing.
abbrev pub comment : List ℕ → ℕ → Start
comment rest n = cond (nat_eq n (length rest)) over (bad n)

-- What begins where the rest of the line begins: a blank; nothing more but a comment; a token; or nothing, and then the
-- first byte that begins nothing stands so many bytes further on.
unfoldable pub starts : List ℕ → Start
starts rest =
    cond (nat_eq (length rest) 0) over
    (cond (is_blank (get_or rest 0 0)) gap
    (cond (nat_eq (get_or rest 0 0) (byte "#")) (comment rest (comment_len rest))
    (token_at rest (get_or rest 0 0))))

-- A token by itself: its kind and its bytes.
pub record Word : Type 0 where
  pub kind : TokenKind
  pub bytes : List ℕ

-- The line is these words, in this order: each is what begins at its place, blanks stand between them, and at the end stands
-- at most a comment.
pub data Spelled : List ℕ → List Word → Type 0 where
  none_left : (rest : List ℕ) → starts rest ≡ over → Spelled rest []
  past_gap : (rest : List ℕ) (words : List Word) → starts rest ≡ gap → Spelled (drop 1 rest) words → Spelled rest words
  word_then : (rest : List ℕ) (k : TokenKind) (n : ℕ) (words : List Word) → starts rest ≡ token k n → Spelled (drop n rest) words → Spelled rest (record { kind = k; bytes = take n rest } ∷ words)

-- A line is made of one list of words at most.
abbrev pub OneSpelling : List ℕ → Type 0
OneSpelling line = (words others : List Word) → Spelled line words → Spelled line others → words ≡ others

-- The words, one after another, with a space between.
abbrev pub spaced : List Word → List ℕ
spaced [] = []
spaced (word ∷ []) = word.bytes
spaced (word ∷ next ∷ words) = word.bytes ++ 32 ∷ spaced (next ∷ words)

-- Words that are each a token of its kind, with a space between, are a line that is made of just these words.
abbrev pub SpacedWords : Type 0
SpacedWords = (words : List Word) → All (λ word. IsToken word.kind word.bytes) words → Spelled (spaced words) words
