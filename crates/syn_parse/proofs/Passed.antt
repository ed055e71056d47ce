-- The passes that words take are those over all their items: that phrases and items go on one by one makes no difference.
use Rattle.std.proofs.Common.{◌≡◌, List, Option, None, Some, option_and_then, refl}
use Rattle.syn_form.specs.declared.syntax.Lexeme.{Lexeme}
use Rattle.syn_form.specs.declared.syntax.TermSyntax.{TermSyntax}
use Rattle.syn_parse.specs.declared.items.Item.{Item}
use Rattle.syn_parse.specs.declared.phrase_reader.Phrase.{Phrase}
use Rattle.syn_parse.specs.inner.Feeding.{feed}
use Rattle.syn_parse.specs.inner.ItemMachine.{items_of}
use Rattle.syn_parse.specs.inner.PhraseMachine.{phrases_of}
use Rattle.syn_parse.specs.inner.Passes.{last_pass, term_step, term_start, term_ended}
use Rattle.syn_parse.proofs.FormFrames.{and_then-and_then}

-- the items that lexemes make up
abbrev pub items_from : List Lexeme → Option (List Item)
items_from ls = option_and_then items_of (phrases_of ls)

-- the one term that items are
abbrev pub one_term : List Item → Option TermSyntax
one_term is = option_and_then term_ended (feed term_step is term_start)

-- what a reader ends with, from all items
pub passed : {S X : Type 0} (takes : S → Item → Option S) (start : S) (end : S → Option X) (ls : List Lexeme) → option_and_then (last_pass takes start end) (phrases_of ls) ≡ option_and_then (λ is. option_and_then end (feed takes is start)) (items_from ls)
passed {S} {X} takes start end ls = go (phrases_of ls)
  where
    go : (o : Option (List Phrase)) → option_and_then (last_pass takes start end) o ≡ option_and_then (λ is. option_and_then end (feed takes is start)) (option_and_then items_of o)
    go None = refl
    go (Some ps) = and_then-and_then end (λ is. feed takes is start) (items_of ps)
