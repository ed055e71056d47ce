-- What a text is spelled as, put before what follows: token by token, and texts one after another.
use Rattle.std.proofs.Common.{◌≡◌, ℕ, ◌<◌, ◌≤◌, Bool, true, false, cond, List, [], ◌∷◌, ◌++◌, codes, map, nat_eq, length, get_or, drop, refl, sym, ◌∙◌, ap, subst, arith, All, Contains, ⊎_elim, append_assoc, append-nil}
use Rattle.std.specs.Char.{is_ascii_digit}
use Rattle.std.proofs.lemmas.List.{take_at, drop_at, map-append, length-append}
use Rattle.std.proofs.lemmas.List.Elements.{All-from_recursion, All-contains, All-head}
use Rattle.std.proofs.lemmas.Bool.Decides.{nat_tests}
use mathlib.Core.Logic.{inr}
use Rattle.syn_term.specs.declared.tokens.TokenKind.{TokenKind}
use Rattle.syn_term.specs.declared.tokens.TokenKind.TheVariants as kind
use Rattle.syn_term.specs.Names.{reserved, IsName, is_name_byte}
use Rattle.syn_term.specs.Tokens.{gap, over, token, starts, signs, IsDigits, IsToken, Word, Spelled, none_left, past_gap, word_then}
use Rattle.syn_term.proofs.NameLaws.{name_nonempty, name_without, skolem_is}
use Rattle.syn_term.proofs.NumberRuns.{number_first}
use Rattle.syn_term.proofs.Passes.{above}
use Rattle.syn_term.proofs.ReservedWords.{reserved_word}
use Rattle.syn_term.proofs.WordRuns.{word_nonempty}
use Rattle.syn_term.proofs.TokenBegins.{Apart, token_begins}
use Rattle.syn_form.specs.declared.syntax.Mark.TheVariants as mark
use Rattle.syn_form.specs.declared.syntax.Lexeme.{Lexeme}
use Rattle.syn_form.specs.Grammar.{spelling, fixed, in_brackets, with_commas}
use Rattle.syn_form.specs.Printing.{joined}

-- the byte lengthens no token
abbrev pub StopsAt : ℕ → Type 0
StopsAt b = (k : TokenKind) → Apart k b

-- the first byte of what follows lengthens no token
abbrev pub Stops : List ℕ → Type 0
Stops rest = (k : TokenKind) → Apart k (get_or rest 0 0)

-- put before what follows, the text is these words in front of its words
abbrev pub PutsWords : List ℕ → List Lexeme → Type 0
PutsWords text ls = (rest : List ℕ) (ws : List Word) → Stops rest → Spelled rest ws → Spelled (text ++ rest) (map spelling ls ++ ws)

-- put before anything, the text doesn't begin with `>`
abbrev pub HasFront : List ℕ → Type 0
HasFront text = (rest : List ℕ) → nat_eq (get_or (text ++ rest) 0 0) 62 ≡ false

-- the text is these words, and it doesn't begin with `>`
pub record Puts (text : List ℕ) (ls : List Lexeme) : Type 0 where
  pub front : HasFront text
  pub words : PutsWords text ls

stops_by : (b : ℕ) → b < 128 → is_name_byte b ≡ false → is_ascii_digit b ≡ false → nat_eq b 58 ≡ false → nat_eq b 62 ≡ false → StopsAt b
stops_by b low mark digit colon more kind.Name = record { low = low; mark = mark }
stops_by b low mark digit colon more kind.Number = digit
stops_by b low mark digit colon more kind.RowVar = (record { low = low; mark = mark }, colon)
stops_by b low mark digit colon more kind.Skolem = digit
stops_by b low mark digit colon more kind.Sign = more

-- a space, the signs `)`, `,`, `(` and `.`, and the end lengthen no token
pub space_stops : StopsAt 32
space_stops = stops_by 32 (omega arith) refl refl refl refl

pub close_stops : StopsAt 41
close_stops = stops_by 41 (omega arith) refl refl refl refl

pub comma_stops : StopsAt 44
comma_stops = stops_by 44 (omega arith) refl refl refl refl

pub open_stops : StopsAt 40
open_stops = stops_by 40 (omega arith) refl refl refl refl

pub dot_stops : StopsAt 46
dot_stops = stops_by 46 (omega arith) refl refl refl refl

pub end_stops : Stops []
end_stops = stops_by 0 (omega arith) refl refl refl refl

-- at the end nothing is left
pub end_spelled : Spelled [] []
unfolding starts
end_spelled = none_left [] refl

blank : (rest : List ℕ) → starts (32 ∷ rest) ≡ gap
unfolding starts
blank rest = ap (λ (z : Bool). cond z over gap) (above (length (32 ∷ rest)) (omega arith))

-- a word, and what is spelled behind it
word_first : (w : Word) (rest : List ℕ) (words : List Word) → starts (w.bytes ++ rest) ≡ token w.kind (length w.bytes) → Spelled rest words → Spelled (w.bytes ++ rest) (w ∷ words)
word_first w rest words e s =
    let behind : Spelled (drop (length w.bytes) (w.bytes ++ rest)) words = subst (λ (z : List ℕ). Spelled z words) (sym (drop_at w.bytes rest (length w.bytes) refl)) s in
    subst (λ (z : List ℕ). Spelled (w.bytes ++ rest) (record { kind = w.kind; bytes = z } ∷ words)) (take_at w.bytes rest (length w.bytes) refl)
    (word_then (w.bytes ++ rest) w.kind (length w.bytes) words e behind)

-- it is a token of its kind
abbrev pub IsOfKind : Lexeme → Type 0
IsOfKind l = IsToken (spelling l).kind (spelling l).bytes

lexeme_first : (l : Lexeme) (rest : List ℕ) (ws : List Word) → IsOfKind l → Apart (spelling l).kind (get_or rest 0 0) → Spelled rest ws → Spelled ((spelling l).bytes ++ rest) (spelling l ∷ ws)
lexeme_first l rest ws h a s = word_first (spelling l) rest ws (token_begins (spelling l).kind (spelling l).bytes rest h a) s

-- the words of a token alone
pub token_words : (l : Lexeme) → IsOfKind l → PutsWords (spelling l).bytes (l ∷ [])
token_words l h rest ws stops s = lexeme_first l rest ws h (stops (spelling l).kind) s

-- the words of a token and of a text behind it that doesn't lengthen it
pub token_then : (l : Lexeme) (u : List ℕ) (k : List Lexeme) → IsOfKind l → ((rest : List ℕ) → Stops rest → Apart (spelling l).kind (get_or (u ++ rest) 0 0)) → PutsWords u k → PutsWords ((spelling l).bytes ++ u) (l ∷ k)
token_then l u k h next p rest ws stops s =
    subst (λ (z : List ℕ). Spelled z (spelling l ∷ (map spelling k ++ ws))) (sym (append_assoc (spelling l).bytes u rest))
    (lexeme_first l (u ++ rest) (map spelling k ++ ws) h (next rest stops) (p rest ws stops s))

-- the words of two texts, the second of which doesn't lengthen the first
pub words_then : (t u : List ℕ) (l k : List Lexeme) → PutsWords t l → ((rest : List ℕ) → Stops rest → Stops (u ++ rest)) → PutsWords u k → PutsWords (t ++ u) (l ++ k)
words_then t u l k p next q rest ws stops s =
    let words : map spelling l ++ (map spelling k ++ ws) ≡ map spelling (l ++ k) ++ ws = sym (ap (λ (z : List Word). z ++ ws) (map-append spelling l k) ∙ append_assoc (map spelling l) (map spelling k) ws) in
    subst (λ (z : List ℕ). Spelled z (map spelling (l ++ k) ++ ws)) (sym (append_assoc t u rest))
    (subst (Spelled (t ++ (u ++ rest))) words (p (u ++ rest) (map spelling k ++ ws) (next rest stops) (q rest ws stops s)))

-- a space before a text
pub space_then : (u : List ℕ) (k : List Lexeme) → PutsWords u k → PutsWords (32 ∷ u) k
space_then u k p rest ws stops s = past_gap (32 ∷ (u ++ rest)) (map spelling k ++ ws) (blank (u ++ rest)) (p rest ws stops s)

-- how a text begins, whatever is put behind it
pub front_then : (t u : List ℕ) → HasFront t → HasFront (t ++ u)
front_then t u h rest = subst (λ (z : List ℕ). nat_eq (get_or z 0 0) 62 ≡ false) (sym (append_assoc t u rest)) (h (u ++ rest))

-- two texts, the second of which doesn't lengthen the first
pub puts_then : (t u : List ℕ) (l k : List Lexeme) → Puts t l → ((rest : List ℕ) → Stops rest → Stops (u ++ rest)) → PutsWords u k → Puts (t ++ u) (l ++ k)
puts_then t u l k p next q = record { front = front_then t u p.front; words = words_then t u l k p.words next q }

first_byte : (xs ys : List ℕ) → 0 < length xs → get_or (xs ++ ys) 0 0 ≡ get_or xs 0 0
first_byte [] ys h = absurd (omega arith)
first_byte (x ∷ xs) ys h = refl

named_front : (bytes : List ℕ) → IsName bytes → nat_eq (get_or bytes 0 0) 62 ≡ false
named_front bytes h = by bytes (name_nonempty bytes h) (name_without bytes 62 h (omega arith) refl)
  where
    other : (b : ℕ) → (b ≡ 62 → ⊥) → nat_eq b 62 ≡ false
    other b h = grind (arith, nat_tests)

    by : (bs : List ℕ) → 0 < length bs → All (λ (c : ℕ). c ≡ 62 → ⊥) bs → nat_eq (get_or bs 0 0) 62 ≡ false
    by [] some k = absurd (omega arith)
    by (b ∷ bs) some k = other b (All-head (λ (c : ℕ). c ≡ 62 → ⊥) b bs k)

abbrev Plain : List ℕ → Type 0
Plain bs = nat_eq (get_or bs 0 0) 62 ≡ false

reserved_front : (bytes : List ℕ) → Contains reserved bytes → nat_eq (get_or bytes 0 0) 62 ≡ false
reserved_front bytes h = All-contains Plain reserved bytes (All-from_recursion Plain reserved (refl, (refl, (refl, (refl, (refl, (refl, (refl, (refl, (refl, (refl, (refl, (refl, (refl, (refl, (refl, tt)))))))))))))))) h

sign_front : (bytes : List ℕ) → Contains signs bytes → HasFront bytes
sign_front bytes h = All-contains HasFront signs bytes (All-from_recursion HasFront signs (
  (λ rest. refl),
  ((λ rest. refl), ((λ rest. refl), ((λ rest. refl), ((λ rest. refl), ((λ rest. refl), ((λ rest. refl), ((λ rest. refl), ((λ rest. refl), ((λ rest. refl), tt))))))))),
)) h

name_front : (bytes rest : List ℕ) → 0 < length bytes → nat_eq (get_or bytes 0 0) 62 ≡ false → nat_eq (get_or (bytes ++ rest) 0 0) 62 ≡ false
name_front bytes rest some h = ap (λ (z : ℕ). nat_eq z 62) (first_byte bytes rest some) ∙ h

digit_front : (b : ℕ) → is_ascii_digit b ≡ true → nat_eq b 62 ≡ false
digit_front b h = grind (arith, nat_tests)

-- a token doesn't begin with `>`
token_front : (k : TokenKind) (bytes : List ℕ) → IsToken k bytes → HasFront bytes
token_front kind.Name bytes h rest =
    ⊎_elim
    (λ named. name_front bytes rest (name_nonempty bytes named) (named_front bytes named))
    (λ known. let w = reserved_word bytes known in name_front bytes rest (word_nonempty bytes w.0) (reserved_front bytes known))
    h
token_front kind.Number bytes h rest =
    let n = length-append bytes rest in
    let fits : length bytes ≤ length (bytes ++ rest) = omega (arith, n) in
    digit_front (get_or (bytes ++ rest) 0 0) (number_first (bytes ++ rest) (length bytes) fits (subst IsDigits (sym (take_at bytes rest (length bytes) refl)) h))
token_front kind.RowVar bytes h rest = subst (λ (z : List ℕ). nat_eq (get_or (z ++ rest) 0 0) 62 ≡ false) (sym h.is) refl
token_front kind.Skolem bytes h rest = subst (λ (z : List ℕ). nat_eq (get_or (z ++ rest) 0 0) 62 ≡ false) (sym (skolem_is bytes h)) refl
token_front kind.Sign bytes h rest = sign_front bytes h rest

-- nor does a word of an expression
pub lexeme_front : (l : Lexeme) → IsOfKind l → HasFront (spelling l).bytes
lexeme_front l h = token_front (spelling l).kind (spelling l).bytes h

-- a token alone
pub token_puts : (l : Lexeme) → IsOfKind l → Puts (spelling l).bytes (l ∷ [])
token_puts l h = record { front = lexeme_front l h; words = token_words l h }

-- a token, and a text behind it that doesn't lengthen it
pub token_puts_then : (l : Lexeme) (u : List ℕ) (k : List Lexeme) → IsOfKind l → ((rest : List ℕ) → Stops rest → Apart (spelling l).kind (get_or (u ++ rest) 0 0)) → PutsWords u k → Puts ((spelling l).bytes ++ u) (l ∷ k)
token_puts_then l u k h next p = record { front = front_then (spelling l).bytes u (lexeme_front l h); words = token_then l u k h next p }

-- a text in brackets
pub in_brackets_puts : (t : List ℕ) (l : List Lexeme) → Puts t l → Puts (codes "(" ++ t ++ codes ")") (in_brackets l)
in_brackets_puts t l p =
    let close : PutsWords (codes ")") (fixed mark.Close ∷ []) = token_words (fixed mark.Close) (1, omega arith, refl) in
    let whole : Puts (t ++ codes ")") (l ++ fixed mark.Close ∷ []) = puts_then t (codes ")") l (fixed mark.Close ∷ []) p (λ rest stops. close_stops) close in
    token_puts_then (fixed mark.Open) (t ++ codes ")") (l ++ fixed mark.Close ∷ []) (0, omega arith, refl) (λ rest stops. whole.front rest) whole.words

-- what stands between two texts: it lengthens no token, and is this one word
pub record Separates (between : List ℕ) (m : Lexeme) : Type 0 where
  pub stops : (u : List ℕ) → Stops (between ++ u)
  pub words : (u : List ℕ) (k : List Lexeme) → PutsWords u k → PutsWords (between ++ u) (m ∷ k)

-- a text, what stands between, and another text
pub both_puts : (between : List ℕ) (m : Lexeme) (t u : List ℕ) (l k : List Lexeme) → Separates between m → Puts t l → Puts u k → Puts (t ++ between ++ u) (l ++ m ∷ k)
both_puts between m t u l k s p q =
    subst (λ (z : List ℕ). Puts z (l ++ m ∷ k)) (sym (append_assoc t between u))
    (puts_then t (between ++ u) l (m ∷ k) p (λ rest stops. subst Stops (sym (append_assoc between u rest)) (s.stops (u ++ rest))) (s.words u k q.words))

-- a word and a space, and a text
pub word_then_space : (m : Lexeme) (u : List ℕ) (k : List Lexeme) → IsOfKind m → PutsWords u k → Puts ((spelling m).bytes ++ 32 ∷ u) (m ∷ k)
word_then_space m u k h p = token_puts_then m (32 ∷ u) k h (λ rest stops. space_stops (spelling m).kind) (space_then u k p)

-- a word with a space on both sides
pub spaced_word : (m : Lexeme) → IsOfKind m → Separates (32 ∷ ((spelling m).bytes ++ 32 ∷ [])) m
spaced_word m h = record {
  stops = λ u. space_stops;
  words = λ u k p. subst (λ (z : List ℕ). PutsWords (32 ∷ z) (m ∷ k)) (sym (append_assoc (spelling m).bytes (32 ∷ []) u)) (space_then ((spelling m).bytes ++ 32 ∷ u) (m ∷ k) (word_then_space m u k h p).words);
}

-- what stands between arguments, members of chains, sides, and parts of an output
pub comma_between : Separates (codes ", ") (fixed mark.Comma)
comma_between = record {
  stops = λ u. comma_stops;
  words = λ u k p. (word_then_space (fixed mark.Comma) u k (2, omega arith, refl) p).words;
}

pub and_between : Separates (codes " and ") (fixed mark.And)
and_between = spaced_word (fixed mark.And) (inr (5, omega arith, refl))

pub or_between : Separates (codes " or ") (fixed mark.Or)
or_between = spaced_word (fixed mark.Or) (inr (6, omega arith, refl))

pub arrow_between : Separates (codes " -> ") (fixed mark.Arrow)
arrow_between = spaced_word (fixed mark.Arrow) (8, omega arith, refl)

pub equals_between : Separates (codes " = ") (fixed mark.Equals)
equals_between = spaced_word (fixed mark.Equals) (6, omega arith, refl)

pub then_between : Separates (codes " then ") (fixed mark.Then)
then_between = spaced_word (fixed mark.Then) (inr (8, omega arith, refl))

pub else_between : Separates (codes " else ") (fixed mark.Else)
else_between = spaced_word (fixed mark.Else) (inr (9, omega arith, refl))

-- each of the texts is the words beside it
abbrev pub EachPuts : List (List ℕ) → List (List Lexeme) → Type 0
EachPuts [] [] = Unit {0}
EachPuts [] (l ∷ ls) = ⊥
EachPuts (t ∷ ts) [] = ⊥
EachPuts (t ∷ ts) (l ∷ ls) = Puts t l × EachPuts ts ls

-- this word before each
abbrev pub each_after : Lexeme → List (List Lexeme) → List Lexeme
each_after m [] = []
each_after m (l ∷ ls) = m ∷ (l ++ each_after m ls)

commas_are : (l : List Lexeme) (ls : List (List Lexeme)) → l ++ each_after (fixed mark.Comma) ls ≡ with_commas (l ∷ ls)
commas_are l [] = append-nil l
commas_are l (k ∷ ks) = ap (λ (z : List Lexeme). l ++ fixed mark.Comma ∷ z) (commas_are k ks)

-- texts with this between
pub joined_puts : (between : List ℕ) (m : Lexeme) (t : List ℕ) (l : List Lexeme) (ts : List (List ℕ)) (ls : List (List Lexeme)) → Separates between m → Puts t l → EachPuts ts ls → Puts (joined between (t ∷ ts)) (l ++ each_after m ls)
joined_puts between m t l [] [] s p h = subst (Puts t) (sym (append-nil l)) p
joined_puts between m t l [] (k ∷ ks) s p h = absurd h
joined_puts between m t l (u ∷ us) [] s p h = absurd h
joined_puts between m t l (u ∷ us) (k ∷ ks) s p h = both_puts between m t (joined between (u ∷ us)) l (k ++ each_after m ks) s p (joined_puts between m u k us ks s h.0 h.1)

-- texts with a comma and a space between
pub commas_puts : (t : List ℕ) (l : List Lexeme) (ts : List (List ℕ)) (ls : List (List Lexeme)) → Puts t l → EachPuts ts ls → Puts (joined (codes ", ") (t ∷ ts)) (with_commas (l ∷ ls))
commas_puts t l ts ls p h = subst (Puts (joined (codes ", ") (t ∷ ts))) (commas_are l ls) (joined_puts (codes ", ") (fixed mark.Comma) t l ts ls comma_between p h)

-- a head with its arguments in brackets
pub head_puts : (m : Lexeme) (t : List ℕ) (l : List Lexeme) (ts : List (List ℕ)) (ls : List (List Lexeme)) → IsOfKind m → Puts t l → EachPuts ts ls → Puts ((spelling m).bytes ++ codes "(" ++ joined (codes ", ") (t ∷ ts) ++ codes ")") (m ∷ in_brackets (with_commas (l ∷ ls)))
head_puts m t l ts ls h p q =
    let name = (spelling m).bytes in
    let all = joined (codes ", ") (t ∷ ts) in
    let inside = in_brackets_puts all (with_commas (l ∷ ls)) (commas_puts t l ts ls p q) in
    let whole : name ++ codes "(" ++ all ++ codes ")" ≡ name ++ (codes "(" ++ all ++ codes ")") = append_assoc (name ++ codes "(") all (codes ")") ∙ append_assoc name (codes "(") (all ++ codes ")") in
    subst (λ (z : List ℕ). Puts z (m ∷ in_brackets (with_commas (l ∷ ls)))) (sym whole)
    (token_puts_then m (codes "(" ++ all ++ codes ")") (in_brackets (with_commas (l ∷ ls))) h (λ rest stops. open_stops (spelling m).kind) inside.words)

-- with nothing behind it, the text is just these words
pub spelled_alone : (text : List ℕ) (ls : List Lexeme) → PutsWords text ls → Spelled text (map spelling ls)
spelled_alone text ls p =
    subst (λ (z : List ℕ). Spelled z (map spelling ls)) (append-nil text)
    (subst (Spelled (text ++ [])) (append-nil (map spelling ls)) (p [] [] end_stops end_spelled))
