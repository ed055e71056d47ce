-- A mark that is an item by itself, where nothing waits in the reader, goes on at once.
use Rattle.std.proofs.Common.{◌≡◌, ℕ, List, [], ◌∷◌, Option, None, Some, Result, Ok, Err, OnOk, refl, sym, subst}
use Rattle.syn_form.specs.declared.syntax.Mark.{Mark}
use Rattle.syn_form.specs.declared.syntax.Mark.TheVariants as mark
use Rattle.syn_form.specs.declared.syntax.Lexeme.TheVariants as lexeme
use Rattle.syn_form.specs.declared.syntax.TermSyntax.{TermSyntax}
use Rattle.syn_parse.specs.declared.phrase_reader.Phrase.{Phrase}
use Rattle.syn_parse.specs.declared.phrase_reader.Phrase.TheVariants as phrase
use Rattle.syn_parse.specs.declared.items.Item.{Item}
use Rattle.syn_parse.specs.declared.items.Item.TheVariants as item
use Rattle.syn_parse.specs.declared.item_reader.Call.{Call}
use Rattle.syn_parse.specs.declared.item_reader.ItemReader.{ItemReader}
use Rattle.syn_parse.specs.inner.ItemMachine.{IsLone, outside, reads}
use Rattle.syn_parse.specs.declared.stop.Stop.{Stop}
use Rattle.syn_parse.specs.inner.Feeding.{Keeps, fed}
use Rattle.syn_parse.specs.inner.Leads.{Leads}
use Rattle.syn_parse.proofs.Feeding.{pass_fed}
use Rattle.syn_parse.proofs.FormFrames.{and_then-some}

lone_outside : (n : ℕ) (m : Mark) → (m ≡ mark.Equals → ⊥) → outside (reads [] None [] n None) m ≡ Some (reads (item.Fixed m ∷ []) None [] n None)
lone_outside n mark.Open ne = refl
lone_outside n mark.Equals ne = absurd (ne refl)
lone_outside n m ne = refl

lone_at : (items : List Item) (left : Option TermSyntax) (calls : List Call) (n : ℕ) (last : Option TermSyntax) (m : Mark) → items ≡ [] → left ≡ None → calls ≡ [] → last ≡ None → (m ≡ mark.Equals → ⊥) → IsLone (reads items left calls n last) m
lone_at (i ∷ is) left calls n last m a b c d ne = absurd (cc)
lone_at [] (Some t) calls n last m a b c d ne = absurd (cc)
lone_at [] None (x ∷ xs) n last m a b c d ne = absurd (cc)
lone_at [] None [] n (Some t) m a b c d ne = absurd (cc)
lone_at [] None [] n None m a b c d ne = (refl, lone_outside n m ne)

pub lone_mark : (r : ItemReader) (m : Mark) → r.items ≡ [] → r.left ≡ None → r.calls ≡ [] → r.last ≡ None → (m ≡ mark.Equals → ⊥) → IsLone r m
lone_mark r m a b c d ne = lone_at r.items r.left r.calls r.count r.last m a b c d ne

pub lone_fed : {S A : Type 0} (takes : S → Item → Option S) (s t : S) (r : ItemReader) (m : Mark) (more : List Phrase) (result : Result A Stop) → IsLone r m → Leads result t (takes s (item.Fixed m)) → Keeps result (fed takes s r (phrase.Word (lexeme.Fixed m) ∷ more)) (fed takes t r more)
lone_fed {S} {A} takes s t r m more result lone h =
    subst (λ (z : ItemReader). Keeps result (fed takes s r (phrase.Word (lexeme.Fixed m) ∷ more)) (fed takes t z more)) (sym lone.0)
    (pass_fed takes s t r (reads (item.Fixed m ∷ []) None [] r.count None) (phrase.Word (lexeme.Fixed m)) more result [] (sym lone.1) (subst (Leads result t) (sym (and_then-some (takes s (item.Fixed m)))) h) (none_left result))
  where
    none_left : (z : Result A Stop) → OnOk z (◌≡◌ {A = List Item} [] [])
    none_left (Ok a) = refl
    none_left (Err e) = tt
