-- Private: the passes that words take, in a row.
use Rattle.std.specs.Prelude.{◌≡◌, List, Option, None, Some, IfSome}
use Rattle.std.specs.Option.{option_and_then}
use Rattle.syn_term.specs.Tokens.{Word}
use Rattle.syn_form.specs.declared.syntax.Lexeme.{Lexeme}
use Rattle.syn_form.specs.declared.syntax.TermSyntax.{TermSyntax}
use Rattle.syn_form.specs.declared.syntax.FormSyntax.{FormSyntax}
use Rattle.syn_form.specs.declared.syntax.OutSyntax.{OutSyntax}
use Rattle.syn_parse.specs.declared.items.Item.{Item}
use Rattle.syn_parse.specs.declared.items.Item.TheVariants as item
use Rattle.syn_parse.specs.declared.phrase_reader.Phrase.{Phrase}
use Rattle.syn_parse.specs.declared.term_reader.TermReader.{TermReader}
use Rattle.syn_parse.specs.Lexemes.{IsWrittenBy}
use Rattle.syn_parse.specs.inner.PhraseMachine.{phrases_of}
use Rattle.syn_parse.specs.inner.ItemMachine as items
use Rattle.syn_parse.specs.inner.Feeding.{fed}
use Rattle.syn_parse.specs.inner.FormMachine as forms
use Rattle.syn_parse.specs.inner.OutMachine as outs

abbrev pub only : Option TermSyntax → TermSyntax → Option TermReader
only None t = Some (record { term = Some t })
only (Some u) t = None

-- the reader of a term takes one item, which is a term
abbrev pub term_step : TermReader → Item → Option TermReader
term_step r (item.Term t) = only r.term t
term_step r _ = None

abbrev pub term_start : TermReader
term_start = record { term = None }

abbrev pub term_ended : TermReader → Option TermSyntax
term_ended r = r.term

-- what a reader of items ends with after those of the phrases
abbrev pub last_pass : {S X : Type 0} → (S → Item → Option S) → S → (S → Option X) → List Phrase → Option X
last_pass takes start end ps = option_and_then end (fed takes start items.start ps)

abbrev pub term_of : List Phrase → Option TermSyntax
term_of = last_pass term_step term_start term_ended

abbrev pub form_of : List Phrase → Option FormSyntax
form_of = last_pass forms.step forms.start forms.ended

abbrev pub out_of : List Phrase → Option OutSyntax
out_of = last_pass outs.step outs.start outs.ended

-- the syntax tree that lexemes are
abbrev pub term_from : List Lexeme → Option TermSyntax
term_from ls = option_and_then term_of (phrases_of ls)

abbrev pub form_from : List Lexeme → Option FormSyntax
form_from ls = option_and_then form_of (phrases_of ls)

abbrev pub out_from : List Lexeme → Option OutSyntax
out_from ls = option_and_then out_of (phrases_of ls)

-- all lexemes that the words are give this, and where it is there, the words are lexemes that do
pub record Gives {X : Type 0} (from : List Lexeme → Option X) (words : List Word) (answer : Option X) : Type 0 where
  pub all : (ls : List Lexeme) → IsWrittenBy words ls → from ls ≡ answer
  pub some : IfSome answer (λ x. (ls : List Lexeme) × IsWrittenBy words ls × (from ls ≡ Some x))
