-- Private: how single words are spelled, for the functions that tell lexemes.
use Rattle.std.specs.Prelude.{◌≡◌, ℕ, ◌<◌, ◌^◌, List, ◌++◌, codes, cond, decimal, nat_eq}
use Rattle.std.specs.Str.{byte}
use Rattle.syn_term.specs.declared.tokens.TokenKind.TheVariants as kind
use Rattle.syn_term.specs.Tokens.{Word}
use Rattle.syn_lex.specs.Lexing.{word}
use Rattle.syn_form.specs.declared.syntax.Mark.{Mark}
use Rattle.syn_form.specs.declared.syntax.Mark.TheVariants as mark
use Rattle.syn_form.specs.declared.syntax.Lexeme.{Lexeme}
use Rattle.syn_form.specs.declared.syntax.Lexeme.TheVariants as lexeme
use Rattle.syn_form.specs.Grammar.{mark_word, spelling}
use Rattle.syn_parse.specs.Lexemes.{IsCanonical}

-- the word of a row variable by its digits and by what stands behind them
abbrev pub row_word : List ℕ → List ℕ → Word
row_word digits sort = word kind.RowVar (codes "?" ++ digits ++ sort)

-- no mark is spelled so
abbrev pub NoMark : Word → Type 0
NoMark w = (m : Mark) → mark_word m ≡ w → ⊥

-- the lexeme is canonical and spelled so
abbrev pub Spells : Word → Lexeme → Type 0
Spells w l = IsCanonical l × (spelling l ≡ w)

-- no canonical lexeme is spelled so
abbrev pub NoLexeme : Word → Type 0
NoLexeme w = (l : Lexeme) → IsCanonical l → spelling l ≡ w → ⊥

-- no number of 32 bits has these digits
abbrev pub NoNumber : List ℕ → Type 0
NoNumber digits = (n : ℕ) → n < 2 ^ 32 → digits ≡ decimal n → ⊥

-- a name isn't spelled like the sort of numbers
abbrev pub NotNat : Lexeme → Type 0
NotNat (lexeme.Name x) = x ≡ codes "nat" → ⊥
NotNat _ = Unit {0}

-- the one mark that a word may be whose bytes begin with b and c; of no meaning where it is none
abbrev pub candidate : ℕ → ℕ → Mark
candidate b c =
    cond (nat_eq b (byte "(")) mark.Open
    (cond (nat_eq b (byte ")")) mark.Close
    (cond (nat_eq b (byte ",")) mark.Comma
    (cond (nat_eq b (byte ":")) mark.Colon
    (cond (nat_eq b (byte ".")) mark.Dot
    (cond (nat_eq b (byte "=")) mark.Equals
    (cond (nat_eq b (byte "-")) mark.Arrow
    (cond (nat_eq b (byte "<")) mark.BothWays
    (cond (nat_eq b (byte "o")) mark.Or
    (cond (nat_eq b (byte "i")) mark.If
    (cond (nat_eq b (byte "e")) mark.Else
    (cond (nat_eq b (byte "f")) mark.False
    (cond (nat_eq b (byte "s")) mark.ForSome
    (cond (nat_eq b (byte "a")) (cond (nat_eq c (byte "n")) mark.And mark.ForAll)
    (cond (nat_eq b (byte "t")) (cond (nat_eq c (byte "h")) mark.Then mark.True)
    (cond (nat_eq c (byte "o")) mark.Not mark.Nat)))))))))))))))
