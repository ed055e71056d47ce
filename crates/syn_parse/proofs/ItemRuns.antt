-- The reader of terms makes items from their phrases, where a mark stands behind each term that ends it.
use Rattle.std.proofs.Common.{◌≡◌, ◌≤◌, Bool, true, false, List, [], ◌∷◌, ◌++◌, length, Option, None, Some, option_and_then, refl, ◌∙◌, ap, arith, append_assoc}
use Rattle.syn_form.specs.declared.syntax.Mark.{Mark}
use Rattle.syn_form.specs.declared.syntax.Mark.TheVariants as mark
use Rattle.syn_form.specs.declared.syntax.TermSyntax.{TermSyntax}
use Rattle.syn_form.specs.Grammar.{fixed, words_of_term}
use Rattle.syn_parse.specs.declared.phrase_reader.Phrase.TheVariants as phrase
use Rattle.syn_parse.specs.declared.items.Item.{Item}
use Rattle.syn_parse.specs.declared.items.Item.TheVariants as item
use Rattle.syn_parse.specs.declared.item_reader.ItemReader.{ItemReader}
use Rattle.syn_parse.specs.inner.Items.{words_of_items}
use Rattle.syn_parse.specs.inner.PhraseMachine.{phrases_of}
use Rattle.syn_parse.specs.inner.ItemMachine.{reads, start, step, run, ended, items_of}
use Rattle.syn_parse.specs.Written.{Written}
use Rattle.syn_parse.proofs.TermRuns.{spelled, then_spelled, then_runs, term_runs}
use Rattle.syn_parse.proofs.PhraseRuns.{phrases_of_item, phrases_of_items, phrases_back, AllHaveBinders, HasBinders, begins_none}

-- a mark that ends the term before it
abbrev pub stops : Mark → Bool
stops mark.Open = false
stops mark.Equals = false
stops _ = true

-- a mark that is an item by itself
abbrev pub stands_alone : Mark → Bool
stands_alone mark.Equals = false
stands_alone m = begins_none m

-- an item that is read where nothing was read of another
abbrev pub Alone : Item → Type 0
Alone (item.Term t) = Written t
Alone (item.Equal s t) = Written s × Written t
Alone (item.Quantifier q binders) = 1 ≤ length binders
Alone (item.Fixed m) = stands_alone m ≡ true

-- an item may stand behind another: behind a term or an equality only a mark that ends it
abbrev pub Behind : Item → Item → Type 0
Behind (item.Fixed m) j = Unit {0}
Behind (item.Quantifier q binders) j = Unit {0}
Behind i (item.Fixed m) = stops m ≡ true
Behind i j = ⊥

abbrev pub Goes : Item → List Item → Type 0
Goes i [] = Unit {0}
Goes i (j ∷ js) = Behind i j

-- items that keep apart when they are spelled
abbrev pub Apart : List Item → Type 0
Apart [] = Unit {0}
Apart (i ∷ is) = Alone i × Goes i is × Apart is

-- the reader where nothing was read of the next item
abbrev free : List Item → ItemReader
free items = reads items None [] 0 None

-- the reader after an item that may still go on
abbrev after : List Item → Item → ItemReader
after items (item.Term t) = reads items None [] 0 (Some t)
after items (item.Equal s t) = reads items (Some s) [] 0 (Some t)
after items i = free (items ++ i ∷ [])

mark_alone : (items : List Item) (m : Mark) → stands_alone m ≡ true → step (free items) (phrase.Word (fixed m)) ≡ Some (free (items ++ item.Fixed m ∷ []))
mark_alone items mark.Equals h = absurd (cc)
mark_alone items m h = refl

-- a term that stands in no call
outer_term : (t : TermSyntax) (items : List Item) (left : Option TermSyntax) → Written t → spelled (words_of_term t) (reads items left [] 0 None) ≡ Some (reads items left [] 0 (Some t))
outer_term t items left w = term_runs t items left [] 0 w.0 (omega (arith, w.1))

-- an item where nothing was read of another
item_alone : (items : List Item) (i : Item) → Alone i → run (phrases_of_item i) (free items) ≡ Some (after items i)
item_alone items (item.Term t) w = outer_term t items None w
item_alone items (item.Equal s t) w = then_spelled (words_of_term s) (fixed mark.Equals ∷ words_of_term t) (free items) (reads items None [] 0 (Some s)) (outer_term s items None w.0) ∙ outer_term t items (Some s) w.1
item_alone items (item.Quantifier q binders) w = refl
item_alone items (item.Fixed m) w = ap (option_and_then (run [])) (mark_alone items m w)

-- a mark that ends a term or an equality
mark_ends : (items : List Item) (i : Item) (m : Mark) → stops m ≡ true → step (after items i) (phrase.Word (fixed m)) ≡ step (free (items ++ i ∷ [])) (phrase.Word (fixed m))
mark_ends items (item.Fixed k) m h = refl
mark_ends items (item.Quantifier q binders) m h = refl
mark_ends items i mark.Open h = absurd (cc)
mark_ends items i mark.Equals h = absurd (cc)
mark_ends items (item.Term t) m h = refl
mark_ends items (item.Equal s t) m h = refl

-- an item behind another
item_behind : (items : List Item) (i j : Item) → Behind i j → run (phrases_of_item j) (after items i) ≡ run (phrases_of_item j) (free (items ++ i ∷ []))
item_behind items (item.Fixed m) j b = refl
item_behind items (item.Quantifier q binders) j b = refl
item_behind items (item.Term t) (item.Fixed m) b = ap (option_and_then (run [])) (mark_ends items (item.Term t) m b)
item_behind items (item.Equal s t) (item.Fixed m) b = ap (option_and_then (run [])) (mark_ends items (item.Equal s t) m b)
item_behind items _ _ b = absurd b

ended_after : (items : List Item) (i : Item) → ended (after items i) ≡ Some (items ++ i ∷ [])
ended_after items (item.Term t) = refl
ended_after items (item.Equal s t) = refl
ended_after items (item.Quantifier q binders) = refl
ended_after items (item.Fixed m) = refl

rest_runs : (is : List Item) (items : List Item) (i : Item) → Goes i is → Apart is → option_and_then ended (run (phrases_of_items is) (after items i)) ≡ Some (items ++ i ∷ is)
rest_runs [] items i g a = ended_after items i
rest_runs (j ∷ js) items i g a =
    let read : run (phrases_of_item j) (after items i) ≡ Some (after (items ++ i ∷ []) j) = item_behind items i j g ∙ item_alone (items ++ i ∷ []) j a.0 in
    ap (option_and_then ended) (then_runs (phrases_of_item j) (phrases_of_items js) (after items i) (after (items ++ i ∷ []) j) read) ∙ (rest_runs js (items ++ i ∷ []) j a.1 a.2 ∙ ap (λ (z : List Item). Some z) (append_assoc items (i ∷ []) (j ∷ js)))

-- items that keep apart are read from their phrases
items_back : (is : List Item) → Apart is → items_of (phrases_of_items is) ≡ Some is
items_back [] a = refl
items_back (i ∷ is) a = ap (option_and_then ended) (then_runs (phrases_of_item i) (phrases_of_items is) start (after [] i) (item_alone [] i a.0)) ∙ rest_runs is [] i a.1 a.2

alone_bound : (i : Item) → Alone i → HasBinders i
alone_bound (item.Term t) a = tt
alone_bound (item.Equal s t) a = tt
alone_bound (item.Quantifier q binders) a = a
alone_bound (item.Fixed mark.Equals) a = refl
alone_bound (item.Fixed m) a = a

apart_bound : (is : List Item) → Apart is → AllHaveBinders is
apart_bound [] a = tt
apart_bound (i ∷ is) a = (alone_bound i a.0, apart_bound is a.2)

-- items that keep apart are read from their words
pub apart_read : (is : List Item) → Apart is → option_and_then items_of (phrases_of (words_of_items is)) ≡ Some is
apart_read is a = ap (option_and_then items_of) (phrases_back is (apart_bound is a)) ∙ items_back is a
