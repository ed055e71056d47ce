-- The reader of quantifiers makes the phrases of the items from the words of the items.
use Rattle.std.proofs.Common.{◌≡◌, ℕ, ◌≤◌, Bool, true, false, if◌then◌else◌, List, [], ◌∷◌, ◌++◌, map, length, Option, None, Some, option_and_then, option_map, codes, refl, sym, ◌∙◌, ap, subst, arith, append_assoc, append-nil}
use Rattle.std.proofs.lemmas.Slice.Eq.{bytes_eq-Decides}
use Rattle.std.proofs.lemmas.List.{map-append}
use Rattle.std.specs.Str.{bytes_eq}
use Rattle.std.specs.Bool.{Decides}
use Rattle.std.specs.List.{flat_map}
use Rattle.syn_form.specs.declared.syntax.Mark.{Mark}
use Rattle.syn_form.specs.declared.syntax.Mark.TheVariants as mark
use Rattle.syn_form.specs.declared.syntax.Lexeme.{Lexeme}
use Rattle.syn_form.specs.declared.syntax.Lexeme.TheVariants as lexeme
use Rattle.syn_form.specs.declared.syntax.HeadName.{HeadName}
use Rattle.syn_form.specs.declared.syntax.HeadName.TheVariants as head
use Rattle.syn_form.specs.declared.syntax.Quantifier.{Quantifier}
use Rattle.syn_form.specs.declared.syntax.Quantifier.TheVariants as quantifier
use Rattle.syn_form.specs.declared.syntax.BinderSyntax.{BinderSyntax}
use Rattle.syn_form.specs.declared.syntax.TermSyntax.{TermSyntax}
use Rattle.syn_form.specs.declared.syntax.TermSyntax.TheVariants as term
use Rattle.syn_form.specs.declared.syntax.TermSyntax.TheViews as view
use Rattle.syn_form.specs.Grammar.{fixed, head_lexeme, with_commas, quantifier_mark, sort_lexeme, words_of_binder, words_of_quantifier, words_of_term, words_of_args}
use Rattle.syn_parse.specs.declared.phrase_reader.Phrase.{Phrase}
use Rattle.syn_parse.specs.declared.phrase_reader.Phrase.TheVariants as phrase
use Rattle.syn_parse.specs.declared.phrase_reader.BinderStage.TheVariants as stage
use Rattle.syn_parse.specs.declared.phrase_reader.PhraseReader.{PhraseReader}
use Rattle.syn_parse.specs.declared.items.Item.{Item}
use Rattle.syn_parse.specs.declared.items.Item.TheVariants as item
use Rattle.syn_parse.specs.inner.Items.{words_of_item, words_of_items}
use Rattle.syn_parse.specs.inner.PhraseMachine.{closed, holds, with_binder, sort_of, step, run, ended, phrases_of}
use Rattle.syn_parse.proofs.TermShapes.{words-Number, words-RowVar, words-Alone, words-Applied, Each, by_terms}
use Rattle.syn_parse.proofs.TermRuns.{as_words}

both_runs : (xs ys : List Lexeme) → ((s : PhraseReader) → run (xs ++ ys) s ≡ option_and_then (run ys) (run xs s)) → (o : Option PhraseReader) → option_and_then (run (xs ++ ys)) o ≡ option_and_then (run ys) (option_and_then (run xs) o)
both_runs xs ys h None = refl
both_runs xs ys h (Some s) = h s

-- words after words
run-append : (xs ys : List Lexeme) (r : PhraseReader) → run (xs ++ ys) r ≡ option_and_then (run ys) (run xs r)
run-append [] ys r = refl
run-append (x ∷ xs) ys r = both_runs xs ys (λ s. run-append xs ys s) (step r x)

then_runs : (xs ys : List Lexeme) (r s : PhraseReader) → run xs r ≡ Some s → run (xs ++ ys) r ≡ run ys s
then_runs xs ys r s e = run-append xs ys r ∙ ap (option_and_then (run ys)) e

-- words that stay as they are, whatever stands before them
abbrev Stay : List Lexeme → Type 0
Stay ls = (done : List Phrase) → run ls (closed done) ≡ Some (closed (done ++ as_words ls))

stay-nil : Stay []
stay-nil done = ap (λ (z : List Phrase). Some (closed z)) (sym (append-nil done))

stay-append : (xs ys : List Lexeme) → Stay xs → Stay ys → Stay (xs ++ ys)
stay-append xs ys a b done = then_runs xs ys (closed done) (closed (done ++ as_words xs)) (a done) ∙ (b (done ++ as_words xs) ∙ ap (λ (z : List Phrase). Some (closed z)) (append_assoc done (as_words xs) (as_words ys) ∙ ap (λ (z : List Phrase). done ++ z) (sym (map-append (λ l. phrase.Word l) xs ys))))

stay-number : (k : ℕ) → Stay (lexeme.Number k ∷ [])
stay-number k done = refl

stay-row_var : (k : ℕ) (s : Option (List ℕ)) → Stay (lexeme.RowVar k s ∷ [])
stay-row_var k s done = refl

stay-head : (h : HeadName) → Stay (head_lexeme h ∷ [])
stay-head (head.Name x) done = refl
stay-head (head.Skolem x) done = refl

-- a mark that begins no quantifier
abbrev pub begins_none : Mark → Bool
begins_none mark.ForAll = false
begins_none mark.ForSome = false
begins_none _ = true

stay-mark : (m : Mark) → begins_none m ≡ true → Stay (fixed m ∷ [])
stay-mark mark.ForAll h done = absurd (cc)
stay-mark mark.ForSome h done = absurd (cc)
stay-mark m h done = refl

abbrev Stays : TermSyntax → Type 0
Stays t = Stay (words_of_term t)

stay-is : (xs ys : List Lexeme) → xs ≡ ys → Stay ys → Stay xs
stay-is xs ys e s = subst (λ (z : List Lexeme). Stay z) (sym e) s

stay-commas : (ts : List TermSyntax) → Each Stays ts → Stay (with_commas (map words_of_term ts))
stay-commas [] each = stay-nil
stay-commas (t ∷ []) each = each.0
stay-commas (t ∷ u ∷ us) each = stay-append (words_of_term t) (fixed mark.Comma ∷ with_commas (map words_of_term (u ∷ us))) each.0 (stay-append (fixed mark.Comma ∷ []) (with_commas (map words_of_term (u ∷ us))) (stay-mark mark.Comma refl) (stay-commas (u ∷ us) each.1))

applied_stays : (h : HeadName) (args : List TermSyntax) → Each Stays args → Stays (view.Applied h args)
applied_stays h args each = stay-is (words_of_term (view.Applied h args)) (head_lexeme h ∷ words_of_args args) (words-Applied h args) (stay-append (head_lexeme h ∷ []) (words_of_args args) (stay-head h) (stay-append (fixed mark.Open ∷ []) (with_commas (map words_of_term args) ++ fixed mark.Close ∷ []) (stay-mark mark.Open refl) (stay-append (with_commas (map words_of_term args)) (fixed mark.Close ∷ []) (stay-commas args each) (stay-mark mark.Close refl))))

-- the words of a term begin no quantifier
term_stays : (t : TermSyntax) → Stay (words_of_term t)
term_stays = by_terms Stays
    (λ k. stay-is (words_of_term (term.Number k)) (lexeme.Number k ∷ []) (words-Number k) (stay-number k))
    (λ k s. stay-is (words_of_term (term.RowVar k s)) (lexeme.RowVar k s ∷ []) (words-RowVar k s) (stay-row_var k s))
    (λ h. stay-is (words_of_term (term.Alone h)) (head_lexeme h ∷ []) (words-Alone h) (stay-head h))
    applied_stays

-- the sort of a binder is read back
sort_at : (s : List ℕ) (b : Bool) → Decides b (s ≡ codes "nat") → sort_of (if b then fixed mark.Nat else lexeme.Name s) ≡ Some s
sort_at s true d = ap (λ (z : List ℕ). Some z) (sym (d.0 refl))
sort_at s false d = refl

sort_back : (b : BinderSyntax) → sort_of (sort_lexeme b) ≡ Some b.sort
sort_back b = sort_at b.sort (bytes_eq b.sort (codes "nat")) (bytes_eq-Decides b.sort (codes "nat"))

module _ (done : List Phrase) (q : Quantifier) where
  binder_runs : (bs : List BinderSyntax) (b : BinderSyntax) → run (words_of_binder b) (holds done q bs stage.Name) ≡ Some (holds done q (bs ++ b ∷ []) stage.Next)
  binder_runs bs b = ap (λ (o : Option (List ℕ)). option_and_then (run []) (option_map (λ s. holds done q (with_binder bs b.name s) stage.Next) o)) (sort_back b)

  binders_run : (bs : List BinderSyntax) (b : BinderSyntax) (more : List BinderSyntax) → run (with_commas (map words_of_binder (b ∷ more)) ++ fixed mark.Dot ∷ []) (holds done q bs stage.Name) ≡ Some (closed (done ++ phrase.Quantifier q (bs ++ b ∷ more) ∷ []))
  binders_run bs b [] = then_runs (words_of_binder b) (fixed mark.Dot ∷ []) (holds done q bs stage.Name) (holds done q (bs ++ b ∷ []) stage.Next) (binder_runs bs b)
  binders_run bs b (c ∷ more) =
      let rest : List Lexeme = with_commas (map words_of_binder (c ∷ more)) ++ fixed mark.Dot ∷ [] in
      then_runs (words_of_binder b) (fixed mark.Comma ∷ rest) (holds done q bs stage.Name) (holds done q (bs ++ b ∷ []) stage.Next) (binder_runs bs b) ∙ (binders_run (bs ++ b ∷ []) c more ∙ ap (λ (z : List BinderSyntax). Some (closed (done ++ phrase.Quantifier q z ∷ []))) (append_assoc bs (b ∷ []) (c ∷ more)))

begins : (done : List Phrase) (q : Quantifier) → step (closed done) (fixed (quantifier_mark q)) ≡ Some (holds done q [] stage.Name)
begins done quantifier.All = refl
begins done quantifier.Exists = refl

quantifier_runs : (done : List Phrase) (q : Quantifier) (bs : List BinderSyntax) → 1 ≤ length bs → run (words_of_quantifier q bs) (closed done) ≡ Some (closed (done ++ phrase.Quantifier q bs ∷ []))
quantifier_runs done q [] some = absurd (omega arith)
quantifier_runs done q (b ∷ bs) some = ap (option_and_then (run (with_commas (map words_of_binder (b ∷ bs)) ++ fixed mark.Dot ∷ []))) (begins done q) ∙ binders_run done q [] b bs

-- the phrases of an item: a quantifier is one, and of all else each word
abbrev pub phrases_of_item : Item → List Phrase
phrases_of_item (item.Quantifier q binders) = phrase.Quantifier q binders ∷ []
phrases_of_item i = as_words (words_of_item i)

abbrev pub phrases_of_items : List Item → List Phrase
phrases_of_items = flat_map phrases_of_item

-- a quantifier binds something, and no mark begins another
abbrev pub HasBinders : Item → Type 0
HasBinders (item.Quantifier q binders) = 1 ≤ length binders
HasBinders (item.Fixed m) = begins_none m ≡ true
HasBinders _ = Unit {0}

item_runs : (i : Item) (done : List Phrase) → HasBinders i → run (words_of_item i) (closed done) ≡ Some (closed (done ++ phrases_of_item i))
item_runs (item.Term t) done b = term_stays t done
item_runs (item.Equal s t) done b = stay-append (words_of_term s) (fixed mark.Equals ∷ words_of_term t) (term_stays s) (stay-append (fixed mark.Equals ∷ []) (words_of_term t) (stay-mark mark.Equals refl) (term_stays t)) done
item_runs (item.Quantifier q binders) done b = quantifier_runs done q binders b
item_runs (item.Fixed m) done b = stay-mark m b done

-- each of the items is so
abbrev pub AllHaveBinders : List Item → Type 0
AllHaveBinders [] = Unit {0}
AllHaveBinders (i ∷ is) = HasBinders i × AllHaveBinders is

items_run : (is : List Item) (done : List Phrase) → AllHaveBinders is → run (words_of_items is) (closed done) ≡ Some (closed (done ++ phrases_of_items is))
items_run [] done b = stay-nil done
items_run (i ∷ is) done b = then_runs (words_of_item i) (words_of_items is) (closed done) (closed (done ++ phrases_of_item i)) (item_runs i done b.0) ∙ (items_run is (done ++ phrases_of_item i) b.1 ∙ ap (λ (z : List Phrase). Some (closed z)) (append_assoc done (phrases_of_item i) (phrases_of_items is)))

-- the phrases of the items' words are the items' phrases
pub phrases_back : (is : List Item) → AllHaveBinders is → phrases_of (words_of_items is) ≡ Some (phrases_of_items is)
phrases_back is b = ap (option_and_then ended) (items_run is [] b)
