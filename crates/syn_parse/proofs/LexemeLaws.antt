-- Words are written by one list of lexemes at most: what a word spells is told by the word.
use Rattle.std.proofs.Common.{◌≡◌, ℕ, ◌<◌, ◌≤◌, ◌^◌, List, [], ◌∷◌, ◌++◌, inl, inr, Option, None, Some, Bool, false, cond, nat_eq, All, decimal, codes, length, map, refl, sym, ◌∙◌, ap, subst, arith}
use Rattle.std.specs.Char.{digit_value}
use Rattle.std.specs.Int.{IsInRange}
use Rattle.std.specs.Option.{option_map_or}
use Rattle.std.specs.Str.Parse.{AllDigits}
use Rattle.std.proofs.lemmas.Bool.Decides.{nat_tests}
use Rattle.std.proofs.lemmas.Fmt.{length-decimal-le}
use Rattle.std.proofs.lemmas.List.Elements.{All-head, All-tail}
use Rattle.std.proofs.lemmas.Str.Parse.{digit_from_value}
use Rattle.syn_term.specs.declared.tokens.TokenKind.{TokenKind}
use Rattle.syn_term.specs.declared.tokens.TokenKind.TheVariants as kind
use Rattle.syn_term.specs.Names.{IsNumber}
use Rattle.syn_term.specs.Tokens.{Word, IsWrittenSort, IsRowVariable}
use Rattle.syn_form.specs.declared.syntax.Mark.{Mark}
use Rattle.syn_form.specs.declared.syntax.Mark.TheVariants as mark
use Rattle.syn_form.specs.declared.syntax.Lexeme.{Lexeme}
use Rattle.syn_form.specs.declared.syntax.Lexeme.TheVariants as lexeme
use Rattle.syn_form.specs.Grammar.{mark_word, spelling}
use Rattle.syn_lex.specs.Lexing.{IsTokenWord}
use Rattle.syn_parse.specs.Lexemes.{IsCanonical, IsWrittenBy}
use Rattle.syn_parse.proofs.DigitRuns.{decimal_digits, one_number}
use Rattle.syn_parse.proofs.MarkTable.{one_mark}

-- the bytes before the first colon, and those behind it
abbrev before : List ℕ → List ℕ
before [] = []
before (b ∷ bs) = cond (nat_eq b 58) [] (b ∷ before bs)

abbrev after : List ℕ → Option (List ℕ)
after [] = None
after (b ∷ bs) = cond (nat_eq b 58) (Some bs) (after bs)

-- a sort as a row variable has it
abbrev sort_bytes : Option (List ℕ) → List ℕ
sort_bytes sort = option_map_or (λ (s : List ℕ). codes ":" ++ s) sort []

digit_no_colon : (b : ℕ) → digit_value b < 10 → nat_eq b 58 ≡ false
digit_no_colon b d = let range : IsInRange 48 57 b = digit_from_value b d in grind (arith, nat_tests)

-- digits and a sort behind them are told apart
cut_nothing : (sort : Option (List ℕ)) → (before (sort_bytes sort) ≡ []) × (after (sort_bytes sort) ≡ sort)
cut_nothing None = (refl, refl)
cut_nothing (Some s) = (refl, refl)

cut_row : (ds : List ℕ) (sort : Option (List ℕ)) → AllDigits 10 ds → (before (ds ++ sort_bytes sort) ≡ ds) × (after (ds ++ sort_bytes sort) ≡ sort)
cut_row [] sort d = cut_nothing sort
cut_row (c ∷ cs) sort d =
    let e = digit_no_colon c d.0 in
    let more = cut_row cs sort d.1 in
    let rest : List ℕ = cs ++ sort_bytes sort in (
      ap (λ (z : Bool). cond z [] (c ∷ before rest)) e ∙ ap (λ (zs : List ℕ). c ∷ zs) more.0,
      ap (λ (z : Bool). cond z (Some rest) (after rest)) e ∙ more.1,
    )

-- numbers of tokens have few digits

short_decimal : (ds : List ℕ) (n : ℕ) → n < 10 ^ 7 → ds ≡ decimal n → length ds < 64
short_decimal ds n low e =
    let size : length (decimal n) ≤ 7 = length-decimal-le 7 n (omega arith) low (omega arith) in
    subst (λ (z : List ℕ). length z < 64) (sym e) (omega arith)

number_digits : (ds : List ℕ) → IsNumber ds → AllDigits 10 ds
number_digits ds is = subst (AllDigits 10) (sym is.is) (decimal_digits is.number)

-- the sort of a token, as a row variable has it
written_sort : (sort : List ℕ) → IsWrittenSort sort → (o : Option (List ℕ)) × (sort ≡ sort_bytes o)
written_sort sort h = elim h [ inl none ↦ (None, none) | inr named ↦ (Some named.0, named.2) ]

behind_mark : (xs ys : List ℕ) → 63 ∷ xs ≡ 63 ∷ ys → xs ≡ ys
behind_mark xs ys e = cc

row_short : (k : ℕ) (sort : Option (List ℕ)) → IsRowVariable (63 ∷ (decimal k ++ sort_bytes sort)) → length (decimal k) < 64
row_short k sort r =
    let o = written_sort r.sort r.sorted in
    let e : decimal k ++ sort_bytes sort ≡ r.number ++ sort_bytes o.0 = behind_mark (decimal k ++ sort_bytes sort) (r.number ++ r.sort) r.is ∙ ap (λ (z : List ℕ). r.number ++ z) o.1 in
    let same : decimal k ≡ r.number =
    sym (cut_row (decimal k) sort (decimal_digits k)).0 ∙ (ap before e ∙ (cut_row r.number o.0 (number_digits r.number r.numbered)).0) in
    short_decimal (decimal k) r.numbered.number r.numbered.small (same ∙ r.numbered.is)

both_parts : (j k : ℕ) (s t : Option (List ℕ)) → j ≡ k → s ≡ t → lexeme.RowVar j s ≡ lexeme.RowVar k t
both_parts j k s t number sort = ap (λ (z : ℕ). lexeme.RowVar z s) number ∙ ap (λ (z : Option (List ℕ)). lexeme.RowVar k z) sort

one_row : (j k : ℕ) (s t : Option (List ℕ)) → IsRowVariable (63 ∷ (decimal j ++ sort_bytes s)) → 63 ∷ (decimal j ++ sort_bytes s) ≡ 63 ∷ (decimal k ++ sort_bytes t) → lexeme.RowVar j s ≡ lexeme.RowVar k t
one_row j k s t r same =
    let e = behind_mark (decimal j ++ sort_bytes s) (decimal k ++ sort_bytes t) same in
    let a = cut_row (decimal j) s (decimal_digits j) in
    let b = cut_row (decimal k) t (decimal_digits k) in
    both_parts j k s t (one_number j k (row_short j s r) (sym a.0 ∙ (ap before e ∙ b.0))) (sym a.1 ∙ (ap after e ∙ b.1))

-- which kinds of words spell which kinds of lexemes

abbrev class : TokenKind → ℕ
class kind.Number = 1
class kind.RowVar = 2
class kind.Skolem = 3
class _ = 0

abbrev lexeme_class : Lexeme → ℕ
lexeme_class (lexeme.Number n) = 1
lexeme_class (lexeme.RowVar n sort) = 2
lexeme_class (lexeme.Skolem x) = 3
lexeme_class _ = 0

mark_class : (m : Mark) → class (mark_word m).kind ≡ 0
mark_class mark.Open = refl
mark_class mark.Close = refl
mark_class mark.Comma = refl
mark_class mark.Colon = refl
mark_class mark.Dot = refl
mark_class mark.Equals = refl
mark_class mark.Arrow = refl
mark_class mark.BothWays = refl
mark_class _ = refl

class_is : (l : Lexeme) → class (spelling l).kind ≡ lexeme_class l
class_is (lexeme.Number n) = refl
class_is (lexeme.RowVar n sort) = refl
class_is (lexeme.Name x) = refl
class_is (lexeme.Skolem x) = refl
class_is (lexeme.Fixed m) = mark_class m

same_class : (l m : Lexeme) → spelling l ≡ spelling m → lexeme_class l ≡ lexeme_class m
same_class l m e = sym (class_is l) ∙ (ap (λ (w : Word). class w.kind) e ∙ class_is m)

same_bytes : (l m : Lexeme) → spelling l ≡ spelling m → (spelling l).bytes ≡ (spelling m).bytes
same_bytes l m e = ap (λ (w : Word). w.bytes) e

-- two lexemes that are spelled by one token are one, where a name is not spelled like a mark
pub one_lexeme : (l m : Lexeme) → IsTokenWord (spelling l) → IsCanonical l → IsCanonical m → spelling l ≡ spelling m → l ≡ m
one_lexeme (lexeme.Number j) (lexeme.Number k) is c d e =
    ap lexeme.Number (one_number j k (short_decimal (decimal j) is.0 is.1 is.2) (same_bytes (lexeme.Number j) (lexeme.Number k) e))
one_lexeme (lexeme.RowVar j s) (lexeme.RowVar k t) is c d e = one_row j k s t is (same_bytes (lexeme.RowVar j s) (lexeme.RowVar k t) e)
one_lexeme (lexeme.Name x) (lexeme.Name y) is c d e = ap lexeme.Name (same_bytes (lexeme.Name x) (lexeme.Name y) e)
one_lexeme (lexeme.Skolem x) (lexeme.Skolem y) is c d e = ap lexeme.Skolem (same_bytes (lexeme.Skolem x) (lexeme.Skolem y) e)
one_lexeme (lexeme.Fixed a) (lexeme.Fixed b) is c d e = ap lexeme.Fixed (one_mark a b e)
one_lexeme (lexeme.Name x) (lexeme.Fixed b) is c d e = absurd (c b (sym e))
one_lexeme (lexeme.Fixed a) (lexeme.Name y) is c d e = absurd (d a e)
one_lexeme l m is c d e = let same : lexeme_class l ≡ lexeme_class m = same_class l m e in absurd (omega arith)

first_word : (v w : Word) (vs ws : List Word) → v ∷ vs ≡ w ∷ ws → v ≡ w
first_word v w vs ws e = cc

other_words : (v w : Word) (vs ws : List Word) → v ∷ vs ≡ w ∷ ws → vs ≡ ws
other_words v w vs ws e = cc

no_words : (w : Word) (ws : List Word) → [] ≡ w ∷ ws → ⊥
no_words w ws e = cc

one_more : (l m : Lexeme) (ls ms : List Lexeme) → l ≡ m → ls ≡ ms → l ∷ ls ≡ m ∷ ms
one_more l m ls ms first more = ap (λ (z : Lexeme). z ∷ ls) first ∙ ap (λ (zs : List Lexeme). m ∷ zs) more

same_lists : (ls ms : List Lexeme) → All IsTokenWord (map spelling ls) → All IsCanonical ls → All IsCanonical ms → map spelling ls ≡ map spelling ms → ls ≡ ms
same_lists [] [] is c d e = refl
same_lists [] (m ∷ ms) is c d e = absurd (no_words (spelling m) (map spelling ms) e)
same_lists (l ∷ ls) [] is c d e = absurd (no_words (spelling l) (map spelling ls) (sym e))
same_lists (l ∷ ls) (m ∷ ms) is c d e =
    one_more l m ls ms
    (one_lexeme l m (All-head IsTokenWord (spelling l) (map spelling ls) is) (All-head IsCanonical l ls c) (All-head IsCanonical m ms d)
    (first_word (spelling l) (spelling m) (map spelling ls) (map spelling ms) e))
    (same_lists ls ms (All-tail IsTokenWord (spelling l) (map spelling ls) is) (All-tail IsCanonical l ls c) (All-tail IsCanonical m ms d)
    (other_words (spelling l) (spelling m) (map spelling ls) (map spelling ms) e))

-- words are written by one list of lexemes at most
pub one_writing : (ws : List Word) (ls ms : List Lexeme) → All IsTokenWord ws → IsWrittenBy ws ls → IsWrittenBy ws ms → ls ≡ ms
one_writing ws ls ms is w v = same_lists ls ms (subst (All IsTokenWord) w.1 is) w.0 v.0 (sym w.1 ∙ v.1)
