-- The items of phrases have the words of the phrases: what the reader of terms holds is made of the words read so far.
use Rattle.std.proofs.Common.{◌≡◌, ℕ, ◌+◌, ◌-◌, nat_lt, Bool, true, false, if◌then◌else◌, List, [], ◌∷◌, ◌++◌, Option, None, Some, option_map, refl, sym, ◌∙◌, ap, append_assoc, append-nil}
use Rattle.std.proofs.lemmas.Option.{option_and_then_some}
use denote.Hole.Carrier.{roll}
use Rattle.syn_form.specs.declared.syntax.Mark.{Mark}
use Rattle.syn_form.specs.declared.syntax.Mark.TheVariants as mark
use Rattle.syn_form.specs.declared.syntax.Lexeme.{Lexeme}
use Rattle.syn_form.specs.declared.syntax.Lexeme.TheVariants as lexeme
use Rattle.syn_form.specs.declared.syntax.HeadName.{HeadName}
use Rattle.syn_form.specs.declared.syntax.HeadName.TheVariants as head
use Rattle.syn_form.specs.declared.syntax.Quantifier.{Quantifier}
use Rattle.syn_form.specs.declared.syntax.BinderSyntax.{BinderSyntax}
use Rattle.syn_form.specs.declared.syntax.TermSyntax.{TermSyntax, out-TermSyntax, roll-TermSyntax, roll-out-TermSyntax}
use Rattle.syn_form.specs.declared.syntax.TermSyntax.TheOpen.{TermSyntax-F}
use Rattle.syn_form.specs.declared.syntax.TermSyntax.TheVariants as term
use Rattle.syn_form.specs.Grammar.{fixed, head_lexeme, words_of_term, words_of_quantifier}
use Rattle.syn_parse.specs.declared.phrase_reader.Phrase.{Phrase}
use Rattle.syn_parse.specs.declared.phrase_reader.Phrase.TheVariants as phrase
use Rattle.syn_parse.specs.declared.items.Item.{Item}
use Rattle.syn_parse.specs.declared.items.Item.TheVariants as item
use Rattle.syn_parse.specs.declared.item_reader.Call.{Call}
use Rattle.syn_parse.specs.declared.item_reader.ItemReader.{ItemReader}
use Rattle.syn_parse.specs.inner.PhraseMachine.{words_of_phrase, words_of_phrases}
use Rattle.syn_parse.specs.inner.Items.{words_of_item, words_of_items}
use Rattle.syn_parse.specs.inner.ItemMachine.{reads, start, placed_at, flushed, emptied, with_next, with_item, head_of, head_layer, call_of, opened, open_at, equals_at, outside, with_arg, closed_call, inside, inside_at, mark_at, word_next, quantifier_at, step, run, ended, ended_at, items_of}
use Rattle.syn_parse.proofs.Commas.{before_next, before_next-last, commas-last}
use Rattle.syn_parse.proofs.TermShapes.{words-Number, words-RowVar, words-Alone, words-Applied}
use Rattle.syn_parse.proofs.ItemTexts.{words_of_items-last}

-- the words of the left side of an equality with its sign
abbrev told_left : Option TermSyntax → List Lexeme
told_left None = []
told_left (Some s) = words_of_term s ++ fixed mark.Equals ∷ []

abbrev told_call : Call → List Lexeme
told_call c = head_lexeme c.head ∷ fixed mark.Open ∷ before_next words_of_term c.args

-- the words of the open calls, the innermost last
abbrev told_calls : List Call → List Lexeme
told_calls [] = []
told_calls (c ∷ calls) = told_calls calls ++ told_call c

abbrev told_last : Option TermSyntax → List Lexeme
told_last None = []
told_last (Some t) = words_of_term t

-- the words before the last term
abbrev told_before : List Item → Option TermSyntax → List Call → List Lexeme
told_before items left calls = words_of_items items ++ (told_left left ++ told_calls calls)

abbrev told : ItemReader → List Lexeme
told r = told_before r.items r.left r.calls ++ told_last r.last

some_same : (words : List Lexeme) (s r : ItemReader) → Some s ≡ Some r → told s ≡ words → told r ≡ words
some_same words s r e a = let is : s ≡ r = cc in sym (ap told is) ∙ a

-- a term that is one word comes
placed_sound : (o : Option TermSyntax) (r s : ItemReader) (t : TermSyntax) (l : Lexeme) → r.last ≡ o → words_of_term t ≡ l ∷ [] → placed_at o r t ≡ Some s → told s ≡ told r ++ l ∷ []
placed_sound None r s t l is words e = some_same (told r ++ l ∷ []) (reads r.items r.left r.calls r.count (Some t)) s e (ap (λ (z : List Lexeme). told_before r.items r.left r.calls ++ z) words ∙ ap (λ (z : List Lexeme). z ++ l ∷ []) (sym (append-nil (told_before r.items r.left r.calls)) ∙ ap (λ (z : Option TermSyntax). told_before r.items r.left r.calls ++ told_last z) (sym is)))
placed_sound (Some u) r s t l is words e = absurd (cc)

-- the items with what was read of the last one
flushed_sound : (items now : List Item) (left last : Option TermSyntax) → flushed items left last ≡ Some now → words_of_items now ≡ told_before items left [] ++ told_last last
flushed_sound items now None None e = let is : now ≡ items = cc in ap words_of_items is ∙ simp append-nil
flushed_sound items now None (Some t) e = let is : now ≡ items ++ item.Term t ∷ [] = cc in ap words_of_items is ∙ (words_of_items-last items (item.Term t) ∙ ap (λ (z : List Lexeme). z ++ words_of_term t) (sym (append-nil (words_of_items items))))
flushed_sound items now (Some s) (Some t) e = let is : now ≡ items ++ item.Equal s t ∷ [] = cc in ap words_of_items is ∙ (words_of_items-last items (item.Equal s t) ∙ equal_grouped (words_of_items items) (words_of_term s) (words_of_term t))
  where
    equal_grouped : (a b c : List Lexeme) → a ++ (b ++ fixed mark.Equals ∷ c) ≡ a ++ ((b ++ fixed mark.Equals ∷ []) ++ []) ++ c
    equal_grouped a b c = simp (append_assoc, append-nil)
flushed_sound items now (Some s) None e = absurd (cc)

-- an item that ends what was read before it, where no call is open
item_sound : (r s : ItemReader) (i : Item) → r.calls ≡ [] → with_item r i ≡ Some s → told s ≡ told r ++ words_of_item i
item_sound r s i is e = go (flushed r.items r.left r.last) refl e
  where
    no_calls : told r ≡ told_before r.items r.left [] ++ told_last r.last
    no_calls = ap (λ (z : List Call). told_before r.items r.left z ++ told_last r.last) is

    go : (o : Option (List Item)) → flushed r.items r.left r.last ≡ o → option_map (with_next i) (option_map (emptied r) o) ≡ Some s → told s ≡ told r ++ words_of_item i
    go None f e = absurd (cc)
    go (Some now) f e =
        let w : told (reads (now ++ i ∷ []) None r.calls r.count None) ≡ words_of_items (now ++ i ∷ []) = ap (λ (z : List Call). told (reads (now ++ i ∷ []) None z r.count None)) is ∙ simp append-nil in
        some_same (told r ++ words_of_item i) (reads (now ++ i ∷ []) None r.calls r.count None) s e (w ∙ (words_of_items-last now i ∙ ap (λ (z : List Lexeme). z ++ words_of_item i) (flushed_sound r.items now r.left r.last f ∙ sym no_calls)))

-- a term that is a head
head_at : (t : TermSyntax) (h : HeadName) (layer : TermSyntax-F TermSyntax) → out-TermSyntax t ≡ layer → head_layer layer ≡ Some h → term.Alone h ≡ t
unfolding roll-TermSyntax roll
head_at t h (TermSyntax-F.Alone k) o e = let is : h ≡ k = cc in ap (λ (z : HeadName). term.Alone z) is ∙ (ap roll-TermSyntax (sym o) ∙ roll-out-TermSyntax t)
head_at t h _ o e = absurd (cc)

call_grouped : (a b c : List Lexeme) (l m : Lexeme) → (a ++ (b ++ (c ++ (l ∷ m ∷ [])))) ++ [] ≡ ((a ++ (b ++ c)) ++ l ∷ []) ++ m ∷ []
call_grouped a b c l m = simp (append_assoc, append-nil)

-- a bracket opens behind a head
opened_sound : (items : List Item) (left : Option TermSyntax) (calls : List Call) (n : ℕ) (t : TermSyntax) (s : ItemReader) → opened (reads items left calls n None) t ≡ Some s → told s ≡ (told_before items left calls ++ words_of_term t) ++ fixed mark.Open ∷ []
opened_sound items left calls n t s e = go (nat_lt n 1263) (head_of t) refl e
  where
    go : (b : Bool) (o : Option HeadName) → head_of t ≡ o → (if b then option_map (λ (h : HeadName). reads items left (call_of h ∷ calls) (n + 1) None) o else None) ≡ Some s → told s ≡ (told_before items left calls ++ words_of_term t) ++ fixed mark.Open ∷ []
    go false o h e = absurd (cc)
    go true None h e = absurd (cc)
    go true (Some k) h e =
        let words : words_of_term t ≡ head_lexeme k ∷ [] = ap words_of_term (sym (head_at t k (out-TermSyntax t) refl h)) ∙ words-Alone k in
        some_same ((told_before items left calls ++ words_of_term t) ++ fixed mark.Open ∷ []) (reads items left (call_of k ∷ calls) (n + 1) None) s e (call_grouped (words_of_items items) (told_left left) (told_calls calls) (head_lexeme k) (fixed mark.Open) ∙ ap (λ (z : List Lexeme). (told_before items left calls ++ z) ++ fixed mark.Open ∷ []) (sym words))

equals_grouped : (a b : List Lexeme) (m : Lexeme) → (a ++ ((b ++ m ∷ []) ++ [])) ++ [] ≡ ((a ++ []) ++ b) ++ m ∷ []
equals_grouped a b m = simp (append_assoc, append-nil)

module _ (r s : ItemReader) where
  abbrev Adds : Lexeme → Type 0
  Adds l = told s ≡ told r ++ l ∷ []

  told-at : (left last : Option TermSyntax) (calls : List Call) → r.left ≡ left → r.last ≡ last → r.calls ≡ calls → told_before r.items left calls ++ told_last last ≡ told r
  told-at left last calls a b c = ap (λ (z : Option TermSyntax). told_before r.items z calls ++ told_last last) (sym a) ∙ (ap (λ (z : Option TermSyntax). told_before r.items r.left calls ++ told_last z) (sym b) ∙ ap (λ (z : List Call). told_before r.items r.left z ++ told_last r.last) (sym c))

  equals_sound : (left last : Option TermSyntax) → r.left ≡ left → r.last ≡ last → r.calls ≡ [] → equals_at left last r ≡ Some s → Adds (fixed mark.Equals)
  equals_sound None (Some t) a b c e =
      let w : told (reads r.items (Some t) r.calls r.count None) ≡ told (reads r.items (Some t) [] r.count None) = ap (λ (z : List Call). told (reads r.items (Some t) z r.count None)) c in
      some_same (told r ++ fixed mark.Equals ∷ []) (reads r.items (Some t) r.calls r.count None) s e (w ∙ (equals_grouped (words_of_items r.items) (words_of_term t) (fixed mark.Equals) ∙ ap (λ (z : List Lexeme). z ++ fixed mark.Equals ∷ []) (told-at None (Some t) [] a b c)))
  equals_sound None None a b c e = absurd (cc)
  equals_sound (Some u) None a b c e = absurd (cc)
  equals_sound (Some u) (Some t) a b c e = absurd (cc)

  open_sound : (last : Option TermSyntax) → r.last ≡ last → r.calls ≡ [] → open_at last r ≡ Some s → Adds (fixed mark.Open)
  open_sound None b c e = item_sound r s (item.Fixed mark.Open) c e
  open_sound (Some t) b c e = opened_sound r.items r.left r.calls r.count t s e ∙ ap (λ (z : List Lexeme). z ++ fixed mark.Open ∷ []) (told-at r.left (Some t) r.calls refl b refl)

  outside_sound : (m : Mark) → r.calls ≡ [] → outside r m ≡ Some s → Adds (fixed m)
  outside_sound mark.Open c e = open_sound r.last refl c e
  outside_sound mark.Equals c e = equals_sound r.left r.last refl refl c e
  outside_sound m c e = item_sound r s (item.Fixed m) c e

comma_grouped : (a b c d t : List Lexeme) (l m o : Lexeme) → (a ++ (b ++ (c ++ (l ∷ m ∷ (d ++ (t ++ o ∷ [])))))) ++ [] ≡ ((a ++ (b ++ (c ++ (l ∷ m ∷ d)))) ++ t) ++ o ∷ []
comma_grouped a b c d t l m o = simp (append_assoc, append-nil)

close_grouped : (a b c d t : List Lexeme) (l m o : Lexeme) → (a ++ (b ++ c)) ++ (l ∷ m ∷ ((d ++ t) ++ o ∷ [])) ≡ ((a ++ (b ++ (c ++ (l ∷ m ∷ d)))) ++ t) ++ o ∷ []
close_grouped a b c d t l m o = simp append_assoc

module _ (items : List Item) (left : Option TermSyntax) (c : Call) (calls : List Call) (n : ℕ) (t : TermSyntax) (s : ItemReader) where
  abbrev Next : Lexeme → Type 0
  Next l = told s ≡ (told_before items left (c ∷ calls) ++ words_of_term t) ++ l ∷ []

  comma_sound : Some (reads items left (with_arg c t ∷ calls) n None) ≡ Some s → Next (fixed mark.Comma)
  comma_sound e = some_same ((told_before items left (c ∷ calls) ++ words_of_term t) ++ fixed mark.Comma ∷ []) (reads items left (with_arg c t ∷ calls) n None) s e (ap (λ (z : List Lexeme). (words_of_items items ++ (told_left left ++ (told_calls calls ++ (head_lexeme c.head ∷ fixed mark.Open ∷ z)))) ++ []) (before_next-last words_of_term c.args t) ∙ comma_grouped (words_of_items items) (told_left left) (told_calls calls) (before_next words_of_term c.args) (words_of_term t) (head_lexeme c.head) (fixed mark.Open) (fixed mark.Comma))

  close_sound : Some (reads items left calls (n - 1) (Some (closed_call c t))) ≡ Some s → Next (fixed mark.Close)
  close_sound e =
      let words : words_of_term (closed_call c t) ≡ head_lexeme c.head ∷ fixed mark.Open ∷ ((before_next words_of_term c.args ++ words_of_term t) ++ fixed mark.Close ∷ []) = words-Applied c.head (c.args ++ t ∷ []) ∙ ap (λ (z : List Lexeme). head_lexeme c.head ∷ fixed mark.Open ∷ (z ++ fixed mark.Close ∷ [])) (commas-last words_of_term c.args t) in
      some_same ((told_before items left (c ∷ calls) ++ words_of_term t) ++ fixed mark.Close ∷ []) (reads items left calls (n - 1) (Some (closed_call c t))) s e (ap (λ (z : List Lexeme). told_before items left calls ++ z) words ∙ close_grouped (words_of_items items) (told_left left) (told_calls calls) (before_next words_of_term c.args) (words_of_term t) (head_lexeme c.head) (fixed mark.Open) (fixed mark.Close))

  inside_sound : (m : Mark) → inside (reads items left calls n None) c t m ≡ Some s → Next (fixed m)
  inside_sound mark.Open e = opened_sound items left (c ∷ calls) n t s e
  inside_sound mark.Comma e = comma_sound e
  inside_sound mark.Close e = close_sound e
  inside_sound _ e = absurd (cc)

inside_at_sound : (r s : ItemReader) (o : Option TermSyntax) (c : Call) (calls : List Call) (m : Mark) → r.last ≡ o → r.calls ≡ c ∷ calls → inside_at o r c calls m ≡ Some s → told s ≡ told r ++ fixed m ∷ []
inside_at_sound r s None c calls m a b e = absurd (cc)
inside_at_sound r s (Some t) c calls m a b e = inside_sound r.items r.left c calls r.count t s m e ∙ ap (λ (z : List Lexeme). z ++ fixed m ∷ []) (told-at r s r.left (Some t) (c ∷ calls) refl a b)

mark_sound : (r s : ItemReader) (calls : List Call) (m : Mark) → r.calls ≡ calls → mark_at calls r m ≡ Some s → told s ≡ told r ++ fixed m ∷ []
mark_sound r s [] m a e = outside_sound r s m a e
mark_sound r s (c ∷ calls) m a e = inside_at_sound r s r.last c calls m refl a e

word_sound : (r s : ItemReader) (l : Lexeme) → word_next r l ≡ Some s → told s ≡ told r ++ l ∷ []
word_sound r s (lexeme.Number k) e = placed_sound r.last r s (term.Number k) (lexeme.Number k) refl (words-Number k) e
word_sound r s (lexeme.RowVar k o) e = placed_sound r.last r s (term.RowVar k o) (lexeme.RowVar k o) refl (words-RowVar k o) e
word_sound r s (lexeme.Name x) e = placed_sound r.last r s (term.Alone (head.Name x)) (lexeme.Name x) refl (words-Alone (head.Name x)) e
word_sound r s (lexeme.Skolem x) e = placed_sound r.last r s (term.Alone (head.Skolem x)) (lexeme.Skolem x) refl (words-Alone (head.Skolem x)) e
word_sound r s (lexeme.Fixed m) e = mark_sound r s r.calls m refl e

quantifier_sound : (r s : ItemReader) (calls : List Call) (q : Quantifier) (binders : List BinderSyntax) → r.calls ≡ calls → quantifier_at calls r q binders ≡ Some s → told s ≡ told r ++ words_of_quantifier q binders
quantifier_sound r s [] q binders a e = item_sound r s (item.Quantifier q binders) a e
quantifier_sound r s (c ∷ calls) q binders a e = absurd (cc)

step_sound : (r s : ItemReader) (p : Phrase) → step r p ≡ Some s → told s ≡ told r ++ words_of_phrase p
step_sound r s (phrase.Word l) e = word_sound r s l e
step_sound r s (phrase.Quantifier q binders) e = quantifier_sound r s r.calls q binders refl e

run_sound : (ps : List Phrase) (r s : ItemReader) → run ps r ≡ Some s → told s ≡ told r ++ words_of_phrases ps
run_sound [] r s e = some_same (told r ++ []) r s e (sym (append-nil (told r)))
run_sound (p ∷ ps) r s e =
    option_and_then_some (run ps) (step r p) s e (λ x one rest.
    run_sound ps x s rest ∙ (ap (λ (z : List Lexeme). z ++ words_of_phrases ps) (step_sound r x p one) ∙ append_assoc (told r) (words_of_phrase p) (words_of_phrases ps)))

-- at the end nothing but the items counts
pub flushed_items : (r : ItemReader) (o : Option (List Item)) (items : List Item) → option_map (λ (s : ItemReader). s.items) (option_map (emptied r) o) ≡ Some items → o ≡ Some items
flushed_items r None items e = e
flushed_items r (Some now) items e = e

ended_sound : (r : ItemReader) (calls : List Call) (items : List Item) → r.calls ≡ calls → ended_at calls r ≡ Some items → words_of_items items ≡ told r
ended_sound r [] items a e = flushed_sound r.items items r.left r.last (flushed_items r (flushed r.items r.left r.last) items e) ∙ ap (λ (z : List Call). told_before r.items r.left z ++ told_last r.last) (sym a)
ended_sound r (c ∷ calls) items a e = absurd (cc)

-- the items have the words of the phrases that they were read from
pub items_sound : (ps : List Phrase) (items : List Item) → items_of ps ≡ Some items → words_of_items items ≡ words_of_phrases ps
items_sound ps items e =
    option_and_then_some ended (run ps start) items e (λ r all end.
    ended_sound r r.calls items refl end ∙ run_sound ps start r all)
