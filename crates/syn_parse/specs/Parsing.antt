-- Public. Which syntax trees words stand for, and texts, as far as they are read: nothing in them is higher than `max_height`.
use Rattle.std.specs.Prelude.{◌≡◌, ℕ, ◌≤◌, List, Option, None, Some}
use Rattle.syn_term.specs.Tokens.{Word}
use Rattle.syn_form.specs.declared.syntax.TermSyntax.{TermSyntax}
use Rattle.syn_form.specs.declared.syntax.FormSyntax.{FormSyntax}
use Rattle.syn_form.specs.declared.syntax.OutSyntax.{OutSyntax}
use Rattle.syn_form.specs.Grammar.{FormText, OutText, words_of_term, words_of_form, words_of_out, syntax_of_form, syntax_of_out}
use Rattle.syn_form.specs.Texts.{IsTextOf}
use Rattle.syn_parse.specs.Heights.{height_of, max_height, out_height}
use Rattle.syn_parse.specs.Lexemes.{IsWrittenBy}
use Rattle.syn_parse.specs.Written.{Written, WrittenForm, WrittenOut}

-- the words are those of the term, which is low and has arguments wherever it has brackets
pub record IsTermSyntaxOfWords (words : List Word) (t : TermSyntax) : Type 0 where
  pub lexemes : IsWrittenBy words (words_of_term t)
  pub written : Written t

-- the words are those of a reading, whose syntax tree is this; its terms are as above, its quantifiers have binders, and it is low
pub record IsFormSyntaxOfWords (words : List Word) (f : FormSyntax) : Type 0 where
  pub reading : FormText
  pub lexemes : IsWrittenBy words (words_of_form reading)
  pub written : WrittenForm reading
  pub tree : syntax_of_form reading ≡ f
  pub low : height_of f ≤ max_height

-- the same for outputs
pub record IsOutSyntaxOfWords (words : List Word) (o : OutSyntax) : Type 0 where
  pub reading : OutText
  pub lexemes : IsWrittenBy words (words_of_out reading)
  pub written : WrittenOut reading
  pub tree : syntax_of_out reading ≡ o
  pub low : out_height o ≤ max_height

-- the text is one line of words that the syntax tree is that of, with blanks between and at most a comment behind them
abbrev pub IsTermSyntaxOf : List ℕ → TermSyntax → Type 0
IsTermSyntaxOf = IsTextOf IsTermSyntaxOfWords

abbrev pub IsFormSyntaxOf : List ℕ → FormSyntax → Type 0
IsFormSyntaxOf = IsTextOf IsFormSyntaxOfWords

abbrev pub IsOutSyntaxOf : List ℕ → OutSyntax → Type 0
IsOutSyntaxOf = IsTextOf IsOutSyntaxOfWords

-- a syntax tree that stands for it, and none only where none does
abbrev pub Parses : {S : Type 0} → (S → Type 0) → Option S → Type 0
Parses {S} Stands None = (s : S) → Stands s → ⊥
Parses Stands (Some s) = Stands s

-- one syntax tree stands for it at most
abbrev pub OneSyntax : {S : Type 0} → (S → Type 0) → Type 0
OneSyntax {S} Stands = (s t : S) → Stands s → Stands t → s ≡ t
