-- An item that stands in the reader before all others may as well have gone on already.
use Rattle.std.proofs.Common.{◌≡◌, ℕ, Bool, true, false, if◌then◌else◌, nat_lt, List, [], ◌∷◌, Option, None, Some, Result, Ok, Err, OnOk, option_and_then, option_map, refl, sym, ◌∙◌, ap}
use Rattle.syn_form.specs.declared.syntax.Mark.{Mark}
use Rattle.syn_form.specs.declared.syntax.Mark.TheVariants as mark
use Rattle.syn_form.specs.declared.syntax.Lexeme.{Lexeme}
use Rattle.syn_form.specs.declared.syntax.Lexeme.TheVariants as lexeme
use Rattle.syn_form.specs.declared.syntax.HeadName.{HeadName}
use Rattle.syn_form.specs.declared.syntax.HeadName.TheVariants as head
use Rattle.syn_form.specs.declared.syntax.TermSyntax.{TermSyntax}
use Rattle.syn_form.specs.declared.syntax.TermSyntax.TheVariants as term
use Rattle.syn_parse.specs.declared.phrase_reader.Phrase.{Phrase}
use Rattle.syn_parse.specs.declared.phrase_reader.Phrase.TheVariants as phrase
use Rattle.syn_parse.specs.declared.items.Item.{Item}
use Rattle.syn_parse.specs.declared.items.Item.TheVariants as item
use Rattle.syn_parse.specs.declared.item_reader.Call.{Call}
use Rattle.syn_parse.specs.declared.item_reader.ItemReader.{ItemReader}
use Rattle.syn_parse.specs.inner.ItemMachine.{reads, placed_at, with_item, head_of, with_call, opened, open_at, equals_at, outside, inside, inside_at, mark_at, word_next, step, run, ended}
use Rattle.syn_parse.specs.declared.stop.Stop.{Stop}
use Rattle.syn_parse.specs.declared.stop.Stop.TheVariants as stop
use Rattle.syn_parse.specs.inner.Feeding.{Keeps, feed, fed}
use Rattle.syn_parse.specs.inner.Leads.{Leads}

module _ (i : Item) where
  -- the reader with this item before all others
  abbrev pre : ItemReader → ItemReader
  pre r = record r { items = i ∷ r.items }

  module _ (items : List Item) (left : Option TermSyntax) (n : ℕ) where
    abbrev here : List Call → Option TermSyntax → ItemReader
    here calls last = reads items left calls n last

    abbrev behind : List Call → Option TermSyntax → ItemReader
    behind calls last = reads (i ∷ items) left calls n last

    placed_pre : (calls : List Call) (last : Option TermSyntax) (t : TermSyntax) → placed_at last (behind calls last) t ≡ option_map pre (placed_at last (here calls last) t)
    placed_pre calls None t = refl
    placed_pre calls (Some u) t = refl

    opened_pre : (calls : List Call) (t : TermSyntax) → opened (behind calls None) t ≡ option_map pre (opened (here calls None) t)
    opened_pre calls t = go (nat_lt n 1263) (head_of t)
      where
        go : (b : Bool) (o : Option HeadName) → (if b then option_map (with_call (behind calls None)) o else None) ≡ option_map pre (if b then option_map (with_call (here calls None)) o else None)
        go false o = refl
        go true None = refl
        go true (Some h) = refl

    inside_pre : (c : Call) (calls : List Call) (t : TermSyntax) (m : Mark) → inside (behind calls None) c t m ≡ option_map pre (inside (here calls None) c t m)
    inside_pre c calls t mark.Open = opened_pre (c ∷ calls) t
    inside_pre c calls t mark.Comma = refl
    inside_pre c calls t mark.Close = refl
    inside_pre c calls t _ = refl

    inside_at_pre : (last : Option TermSyntax) (c : Call) (calls : List Call) (m : Mark) → inside_at last (behind (c ∷ calls) last) c calls m ≡ option_map pre (inside_at last (here (c ∷ calls) last) c calls m)
    inside_at_pre None c calls m = refl
    inside_at_pre (Some t) c calls m = inside_pre c calls t m

  module _ (items : List Item) (n : ℕ) where
    item_pre : (left last : Option TermSyntax) (calls : List Call) (j : Item) → with_item (reads (i ∷ items) left calls n last) j ≡ option_map pre (with_item (reads items left calls n last) j)
    item_pre left (Some t) calls j = refl
    item_pre None None calls j = refl
    item_pre (Some s) None calls j = refl

    equals_pre : (left last : Option TermSyntax) → equals_at left last (reads (i ∷ items) left [] n last) ≡ option_map pre (equals_at left last (reads items left [] n last))
    equals_pre None (Some s) = refl
    equals_pre None None = refl
    equals_pre (Some u) None = refl
    equals_pre (Some u) (Some s) = refl

    open_pre : (left last : Option TermSyntax) → open_at last (reads (i ∷ items) left [] n last) ≡ option_map pre (open_at last (reads items left [] n last))
    open_pre left None = item_pre left None [] (item.Fixed mark.Open)
    open_pre left (Some t) = opened_pre items left n [] t

    outside_pre : (left last : Option TermSyntax) (m : Mark) → outside (reads (i ∷ items) left [] n last) m ≡ option_map pre (outside (reads items left [] n last) m)
    outside_pre left last mark.Open = open_pre left last
    outside_pre left last mark.Equals = equals_pre left last
    outside_pre left last m = item_pre left last [] (item.Fixed m)

    mark_pre : (left last : Option TermSyntax) (calls : List Call) (m : Mark) → mark_at calls (reads (i ∷ items) left calls n last) m ≡ option_map pre (mark_at calls (reads items left calls n last) m)
    mark_pre left last [] m = outside_pre left last m
    mark_pre left last (c ∷ calls) m = inside_at_pre items left n last c calls m

    word_pre : (left last : Option TermSyntax) (calls : List Call) (l : Lexeme) → word_next (reads (i ∷ items) left calls n last) l ≡ option_map pre (word_next (reads items left calls n last) l)
    word_pre left last calls (lexeme.Number k) = placed_pre items left n calls last (term.Number k)
    word_pre left last calls (lexeme.RowVar k s) = placed_pre items left n calls last (term.RowVar k s)
    word_pre left last calls (lexeme.Name x) = placed_pre items left n calls last (term.Alone (head.Name x))
    word_pre left last calls (lexeme.Skolem x) = placed_pre items left n calls last (term.Alone (head.Skolem x))
    word_pre left last calls (lexeme.Fixed m) = mark_pre left last calls m

    step_at_pre : (left last : Option TermSyntax) (calls : List Call) (p : Phrase) → step (reads (i ∷ items) left calls n last) p ≡ option_map pre (step (reads items left calls n last) p)
    step_at_pre left last calls (phrase.Word l) = word_pre left last calls l
    step_at_pre left last [] (phrase.Quantifier q binders) = item_pre left last [] (item.Quantifier q binders)
    step_at_pre left last (c ∷ calls) (phrase.Quantifier q binders) = refl

    ended_at_pre : (left last : Option TermSyntax) (calls : List Call) → ended (reads (i ∷ items) left calls n last) ≡ option_map (λ (is : List Item). i ∷ is) (ended (reads items left calls n last))
    ended_at_pre left last (c ∷ calls) = refl
    ended_at_pre left (Some t) [] = refl
    ended_at_pre None None [] = refl
    ended_at_pre (Some s) None [] = refl

  step_pre : (r : ItemReader) (p : Phrase) → step (pre r) p ≡ option_map pre (step r p)
  step_pre r p = step_at_pre r.items r.count r.left r.last r.calls p

  ended_pre : (r : ItemReader) → ended (pre r) ≡ option_map (λ (is : List Item). i ∷ is) (ended r)
  ended_pre r = ended_at_pre r.items r.count r.left r.last r.calls

  -- all that is read behind it
  whole_pre : (ps : List Phrase) (r : ItemReader) → option_and_then ended (run ps (pre r)) ≡ option_map (λ (is : List Item). i ∷ is) (option_and_then ended (run ps r))
  whole_pre [] r = ended_pre r
  whole_pre (p ∷ ps) r = ap (λ (o : Option ItemReader). option_and_then ended (option_and_then (run ps) o)) (step_pre r p) ∙ go (λ s. whole_pre ps s) (step r p)
    where
      go : ((s : ItemReader) → option_and_then ended (run ps (pre s)) ≡ option_map (λ (is : List Item). i ∷ is) (option_and_then ended (run ps s))) → (o : Option ItemReader) → option_and_then ended (option_and_then (run ps) (option_map pre o)) ≡ option_map (λ (is : List Item). i ∷ is) (option_and_then ended (option_and_then (run ps) o))
      go h None = refl
      go h (Some s) = h s

module _ {S : Type 0} (takes : S → Item → Option S) (ps : List Phrase) where
  fed_first : (i : Item) (s : S) (r : ItemReader) → fed takes s (pre i r) ps ≡ option_and_then (λ t. fed takes t r ps) (takes s i)
  fed_first i s r = ap (λ (o : Option (List Item)). option_and_then (λ is. feed takes is s) o) (whole_pre i ps r) ∙ go (option_and_then ended (run ps r)) (takes s i) refl
    where
      none : (t : Option S) → None ≡ option_and_then (λ (x : S). option_and_then (λ is. feed takes is x) None) t
      none None = refl
      none (Some x) = refl

      go : (w : Option (List Item)) (t : Option S) → takes s i ≡ t → option_and_then (λ is. feed takes is s) (option_map (λ (is : List Item). i ∷ is) w) ≡ option_and_then (λ x. option_and_then (λ is. feed takes is x) w) (takes s i)
      go None t e = none (takes s i)
      go (Some is) t e = refl

  -- the items that are ready go on before the phrases are read
  pub fed_passed : (items : List Item) (s : S) (left last : Option TermSyntax) (calls : List Call) (n : ℕ) → fed takes s (reads items left calls n last) ps ≡ option_and_then (λ t. fed takes t (reads [] left calls n last) ps) (feed takes items s)
  fed_passed [] s left last calls n = refl
  fed_passed (i ∷ is) s left last calls n = fed_first i s (reads is left calls n last) ∙ go (λ t. fed_passed is t left last calls n) (takes s i)
    where
      go : ((t : S) → fed takes t (reads is left calls n last) ps ≡ option_and_then (λ u. fed takes u (reads [] left calls n last) ps) (feed takes is t)) → (o : Option S) → option_and_then (λ t. fed takes t (reads is left calls n last) ps) o ≡ option_and_then (λ t. fed takes t (reads [] left calls n last) ps) (option_and_then (feed takes is) o)
      go h None = refl
      go h (Some t) = h t

-- one phrase more: what its step made ready has gone on
pub pass_fed : {S A : Type 0} (takes : S → Item → Option S) (s t : S) (r q : ItemReader) (p : Phrase) (more : List Phrase) (result : Result A Stop) (ready : List Item) → Some q ≡ step r p → Leads result t (feed takes q.items s) → OnOk result (ready ≡ []) → Keeps result (fed takes s r (p ∷ more)) (fed takes t (reads ready q.left q.calls q.count q.last) more)
pass_fed {S} {A} takes s t r q p more result ready one go rest = by result go rest
  where
    before : fed takes s r (p ∷ more) ≡ option_and_then (λ u. fed takes u (reads [] q.left q.calls q.count q.last) more) (feed takes q.items s)
    before = ap (λ (o : Option ItemReader). option_and_then (λ is. feed takes is s) (option_and_then ended (option_and_then (run more) o))) (sym one) ∙ fed_passed takes more q.items s q.left q.last q.calls q.count

    by : (z : Result A Stop) → Leads z t (feed takes q.items s) → OnOk z (ready ≡ []) → Keeps z (fed takes s r (p ∷ more)) (fed takes t (reads ready q.left q.calls q.count q.last) more)
    by (Ok a) go rest = before ∙ (ap (option_and_then (λ u. fed takes u (reads [] q.left q.calls q.count q.last) more)) (sym go) ∙ ap (λ (z : List Item). fed takes t (reads z q.left q.calls q.count q.last) more) (sym rest))
    by (Err stop.Misplaced) go rest = before ∙ ap (option_and_then (λ u. fed takes u (reads [] q.left q.calls q.count q.last) more)) (sym go)
    by (Err stop.NoMemory) go rest = tt
