-- Private: phrases and items go on to what takes them as soon as they are whole.
use Rattle.std.specs.Prelude.{◌≡◌, List, [], ◌∷◌, Option, None, Some, Result, Ok, Err}
use Rattle.std.specs.Option.{option_and_then}
use Rattle.syn_parse.specs.declared.items.Item.{Item}
use Rattle.syn_parse.specs.declared.phrase_reader.Phrase.{Phrase}
use Rattle.syn_parse.specs.declared.item_reader.ItemReader.{ItemReader}
use Rattle.syn_parse.specs.declared.stop.Stop.{Stop}
use Rattle.syn_parse.specs.declared.stop.Stop.TheVariants as stop
use Rattle.syn_form.specs.declared.syntax.Lexeme.{Lexeme}
use Rattle.syn_parse.specs.declared.phrase_reader.PhraseReader.{PhraseReader}
use Rattle.syn_parse.specs.inner.ItemMachine.{run, ended}
use Rattle.syn_parse.specs.inner.PhraseMachine as phrases

-- all items in a row
abbrev pub feed : {S : Type 0} → (S → Item → Option S) → List Item → S → Option S
feed takes [] s = Some s
feed takes (i ∷ is) s = option_and_then (feed takes is) (takes s i)

-- the items that the phrases make up, where the reader r has read some before
abbrev pub fed : {S : Type 0} → (S → Item → Option S) → S → ItemReader → List Phrase → Option S
fed takes s r ps = option_and_then (λ is. feed takes is s) (option_and_then ended (run ps r))

-- the items that the lexemes make up, where the readers r and p have read some before
abbrev pub told : {S : Type 0} → (S → Item → Option S) → S → ItemReader → PhraseReader → List Lexeme → Option S
told takes s r p ls = option_and_then (fed takes s r) (option_and_then phrases.ended (phrases.run ls p))

-- what is left to read leads where it led before the call
abbrev pub Keeps : {A X : Type 0} → Result A Stop → Option X → Option X → Type 0
Keeps (Ok a) before after = before ≡ after
Keeps (Err stop.Misplaced) before after = before ≡ None
Keeps (Err stop.NoMemory) before after = Unit {0}
