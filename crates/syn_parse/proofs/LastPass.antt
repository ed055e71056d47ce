-- What the words give to the last reader, and what it answers.
use Rattle.std.proofs.Common.{◌≡◌, List, [], Option, None, Some, Result, Ok, Err, IfOk, IfSome, option_and_then, refl, sym, ◌∙◌, subst}
use Rattle.std.proofs.lemmas.Result.{IfOk-weaker}
use Rattle.syn_term.specs.Tokens.{Word}
use Rattle.syn_term.specs.declared.memory.NoMemory.{NoMemory}
use Rattle.syn_form.specs.declared.syntax.Lexeme.{Lexeme}
use Rattle.syn_parse.specs.declared.items.Item.{Item}
use Rattle.syn_parse.specs.declared.phrase_reader.Phrase.{Phrase}
use Rattle.syn_parse.specs.declared.stop.Stop.{Stop}
use Rattle.syn_parse.specs.declared.stop.Stop.TheVariants as stop
use Rattle.syn_parse.specs.Lexemes.{IsWrittenBy}
use Rattle.syn_parse.specs.inner.Feeding.{fed, told}
use Rattle.syn_parse.specs.inner.ItemMachine as items
use Rattle.syn_parse.specs.inner.Leads.{Gets, IsAnswer, Makes, Tells}
use Rattle.syn_parse.specs.inner.Passes.{Gives, last_pass}
use Rattle.syn_parse.specs.inner.PhraseMachine.{closed, phrases_of}
use Rattle.syn_parse.proofs.Gives.{gives_then}

gives_same : {X : Type 0} (from other : List Lexeme → Option X) (ws : List Word) (o : Option X) → ((ls : List Lexeme) → from ls ≡ other ls) → Gives from ws o → Gives other ws o
gives_same {X} from other ws o same g = record { all = λ ls w. sym (same ls) ∙ g.all ls w; some = there o g.some }
  where
    there : (p : Option X) → IfSome p (λ x. (ls : List Lexeme) × IsWrittenBy ws ls × (from ls ≡ Some x)) → IfSome p (λ x. (ls : List Lexeme) × IsWrittenBy ws ls × (other ls ≡ Some x))
    there None k = tt
    there (Some x) k = (k.0, k.1, sym (same k.0) ∙ k.2)

module _ {S X : Type 0} (takes : S → Item → Option S) (start : S) (end : S → Option X) (ws : List Word) where
  abbrev whole : List Lexeme → Option X
  whole ls = option_and_then (last_pass takes start end) (phrases_of ls)

  told_whole : (ls : List Lexeme) → option_and_then end (told takes start items.start (closed []) ls) ≡ whole ls
  told_whole ls = go (phrases_of ls)
    where
      go : (o : Option (List Phrase)) → option_and_then end (option_and_then (fed takes start items.start) o) ≡ option_and_then (last_pass takes start end) o
      go None = refl
      go (Some ps) = refl

  at_end : (o : Option S) (p : Option X) → Gives (told takes start items.start (closed [])) ws o → p ≡ option_and_then end o → Gives whole ws p
  at_end o p g h = gives_same (λ ls. option_and_then end (told takes start items.start (closed []) ls)) whole ws p told_whole (gives_then (told takes start items.start (closed [])) end ws o p g h)

  module _ (s : S) (first : S) (same : first ≡ start) where
    from_start : (o : Option S) → Gives (told takes first items.start (closed [])) ws o → Gives (told takes start items.start (closed [])) ws o
    from_start o g = subst (λ (z : S). Gives (told takes z items.start (closed [])) ws o) same g

    -- the reader is asked at the end
    pub ended_gives : (r : Result X Stop) → Gives (told takes first items.start (closed [])) ws (Some s) → Makes r (end s) → Gets r (Gives whole ws)
    ended_gives (Ok x) g h = at_end (Some s) (Some x) (from_start (Some s) g) h
    ended_gives (Err stop.Misplaced) g h = at_end (Some s) None (from_start (Some s) g) h
    ended_gives (Err stop.NoMemory) g h = tt

    -- or it stopped before
    pub stopped_gives : (e : Stop) → Tells {A = Unit {0}} (Err e) s (Gives (told takes first items.start (closed [])) ws) → Gets {X = X} (Err e) (Gives whole ws)
    stopped_gives stop.Misplaced g = at_end None None (from_start None g) refl
    stopped_gives stop.NoMemory g = tt

-- what is answered
pub answered : {X : Type 0} (P : Option X → Type 0) (r : Result X Stop) (a : Result (Option X) NoMemory) → Gets r P → IsAnswer r a → IfOk a P
answered {X} P (Ok x) a h is = subst (λ (z : Result (Option X) NoMemory). IfOk z P) (sym is) h
answered {X} P (Err stop.Misplaced) a h is = subst (λ (z : Result (Option X) NoMemory). IfOk z P) (sym is) h
answered P (Err stop.NoMemory) a h is = IfOk-weaker a _ _ (λ o no. absurd no) is
