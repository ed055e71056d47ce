-- Public. Which lexemes words are.
use Rattle.std.specs.Prelude.{◌≡◌, List, All, map}
use Rattle.syn_term.specs.Tokens.{Word}
use Rattle.syn_form.specs.declared.syntax.Mark.{Mark}
use Rattle.syn_form.specs.declared.syntax.Lexeme.{Lexeme}
use Rattle.syn_form.specs.declared.syntax.Lexeme.TheVariants as lexeme
use Rattle.syn_form.specs.Grammar.{mark_word, name_word, spelling}

-- a name is canonical where no mark is spelled like it; all other lexemes are
abbrev pub IsCanonical : Lexeme → Type 0
IsCanonical (lexeme.Name x) = (m : Mark) → mark_word m ≡ name_word x → ⊥
IsCanonical _ = Unit {0}

-- the words are the spellings of these lexemes
abbrev pub IsWrittenBy : List Word → List Lexeme → Type 0
IsWrittenBy words ls = All IsCanonical ls × (words ≡ map spelling ls)
