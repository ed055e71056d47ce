-- What the words of a text are read to: items that have these words, or none where no reading has them.
use Rattle.std.proofs.Common.{◌≡◌, ℕ, List, [], ◌∷◌, All, Some, option_and_then, sym, ◌∙◌, ap}
use Rattle.std.proofs.lemmas.Option.{option_and_then_some}
use Rattle.std.proofs.lemmas.List.Elements.{All-nil, All-cons, All-head, All-tail}
use Rattle.syn_form.specs.declared.syntax.Mark.{Mark}
use Rattle.syn_form.specs.declared.syntax.Mark.TheVariants as mark
use Rattle.syn_form.specs.declared.syntax.Lexeme.{Lexeme}
use Rattle.syn_form.specs.declared.syntax.Lexeme.TheVariants as lexeme
use Rattle.syn_form.specs.declared.syntax.TermSyntax.{TermSyntax}
use Rattle.syn_form.specs.Grammar.{mark_word, name_word, words_of_term, words_of_form, words_of_out, FormText, OutText}
use Rattle.syn_parse.specs.declared.items.Item.{Item}
use Rattle.syn_parse.specs.declared.items.Item.TheVariants as item
use Rattle.syn_parse.specs.inner.Items.{items_of_form, items_of_out, words_of_items}
use Rattle.syn_parse.specs.inner.PhraseMachine.{phrases_of}
use Rattle.syn_parse.specs.inner.ItemMachine.{items_of}
use Rattle.syn_parse.specs.inner.Spelling.{NotNat}
use Rattle.syn_parse.proofs.ItemTexts.{words_of_items-form, words_of_items-out, words_of_items-term}
use Rattle.syn_parse.proofs.PhraseSound.{phrases_sound}
use Rattle.syn_parse.proofs.ItemSound.{items_sound}

-- the items have the words that they were read from
pub words_sound : (ls : List Lexeme) (is : List Item) → All NotNat ls → option_and_then items_of (phrases_of ls) ≡ Some is → words_of_items is ≡ ls
words_sound ls is h e =
    option_and_then_some items_of (phrases_of ls) is e (λ ps first second.
    items_sound ps is second ∙ phrases_sound ls ps h first)

-- words of which no name is spelled like a mark
pub all_not_nat : (C : Lexeme → Type 0) → ((x : List ℕ) → C (lexeme.Name x) → (m : Mark) → mark_word m ≡ name_word x → ⊥) → (ls : List Lexeme) → All C ls → All NotNat ls
all_not_nat C c [] h = All-nil NotNat
all_not_nat C c (l ∷ ls) h = All-cons NotNat l ls (at l (All-head C l ls h)) (all_not_nat C c ls (All-tail C l ls h))
  where
    at : (k : Lexeme) → C k → NotNat k
    at (lexeme.Name x) d = λ e. c x d mark.Nat (ap name_word (sym e))
    at _ d = tt

-- items of a reading have its words
pub form_words : (ls : List Lexeme) (is : List Item) (w : FormText) → words_of_items is ≡ ls → is ≡ items_of_form w → ls ≡ words_of_form w
form_words ls is w e same = sym e ∙ (ap words_of_items same ∙ words_of_items-form w)

pub out_words : (ls : List Lexeme) (is : List Item) (w : OutText) → words_of_items is ≡ ls → is ≡ items_of_out w → ls ≡ words_of_out w
out_words ls is w e same = sym e ∙ (ap words_of_items same ∙ words_of_items-out w)

pub term_words : (ls : List Lexeme) (is : List Item) (t : TermSyntax) → words_of_items is ≡ ls → is ≡ item.Term t ∷ [] → ls ≡ words_of_term t
term_words ls is t e same = sym e ∙ (ap words_of_items same ∙ words_of_items-term t)
