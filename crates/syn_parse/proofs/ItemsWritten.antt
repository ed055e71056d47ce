-- What the reader of terms makes is written: its terms are low and have arguments wherever they have brackets, and its
-- quantifiers have binders.
use Rattle.std.proofs.Common.{◌≡◌, ℕ, ◌+◌, ◌-◌, ◌≤◌, ◌<◌, nat_lt, Bool, true, false, if◌then◌else◌, List, [], ◌∷◌, ◌++◌, length, map, All, Option, None, Some, option_map, refl, ◌∙◌, ap, subst, arith}
use Rattle.std.proofs.lemmas.Option.{option_and_then_some}
use Rattle.std.proofs.lemmas.Bool.Decides.{nat_tests}
use Rattle.std.proofs.lemmas.List.{length-append}
use Rattle.std.proofs.lemmas.List.Elements.{All-nil, All-push, All-head, All-tail}
use Rattle.syn_term.specs.Terms.{greatest}
use Rattle.syn_form.specs.declared.syntax.Mark.{Mark}
use Rattle.syn_form.specs.declared.syntax.Mark.TheVariants as mark
use Rattle.syn_form.specs.declared.syntax.Lexeme.{Lexeme}
use Rattle.syn_form.specs.declared.syntax.Lexeme.TheVariants as lexeme
use Rattle.syn_form.specs.declared.syntax.HeadName.{HeadName}
use Rattle.syn_form.specs.declared.syntax.HeadName.TheVariants as head
use Rattle.syn_form.specs.declared.syntax.Quantifier.{Quantifier}
use Rattle.syn_form.specs.declared.syntax.BinderSyntax.{BinderSyntax}
use Rattle.syn_form.specs.declared.syntax.TermSyntax.{TermSyntax}
use Rattle.syn_form.specs.declared.syntax.TermSyntax.TheVariants as term
use Rattle.syn_parse.specs.declared.phrase_reader.Phrase.{Phrase}
use Rattle.syn_parse.specs.declared.phrase_reader.Phrase.TheVariants as phrase
use Rattle.syn_parse.specs.declared.phrase_reader.BinderStage.{BinderStage}
use Rattle.syn_parse.specs.declared.phrase_reader.BinderStage.TheVariants as stage
use Rattle.syn_parse.specs.declared.phrase_reader.Binding.{Binding}
use Rattle.syn_parse.specs.declared.phrase_reader.PhraseReader.{PhraseReader}
use Rattle.syn_parse.specs.declared.items.Item.{Item}
use Rattle.syn_parse.specs.declared.items.Item.TheVariants as item
use Rattle.syn_parse.specs.declared.item_reader.Call.{Call}
use Rattle.syn_parse.specs.declared.item_reader.ItemReader.{ItemReader}
use Rattle.syn_parse.specs.inner.PhraseMachine as binding
use Rattle.syn_parse.specs.inner.ItemMachine.{reads, start, placed_at, flushed, emptied, with_next, with_item, head_of, call_of, opened, open_at, equals_at, outside, with_arg, closed_call, inside, inside_at, mark_at, word_next, quantifier_at, step, run, ended, ended_at, items_of}
use Rattle.syn_parse.proofs.Passed.{items_from}
use Rattle.syn_parse.specs.Written.{Written, term_height, has_args, some_all}
use Rattle.syn_parse.proofs.ItemSound.{flushed_items}
use Rattle.syn_parse.proofs.TermShapes.{height-Number, height-RowVar, height-Alone, height-Applied, has_args-Number, has_args-RowVar, has_args-Alone, has_args-Applied}

-- an item whose terms are written, and whose quantifier binds a name or more
abbrev pub WrittenItem : Item → Type 0
WrittenItem (item.Term t) = Written t
WrittenItem (item.Equal s t) = Written s × Written t
WrittenItem (item.Quantifier q binders) = 1 ≤ length binders
WrittenItem (item.Fixed m) = Unit {0}

-- a quantifier binds a name or more
abbrev WrittenPhrase : Phrase → Type 0
WrittenPhrase (phrase.Word l) = Unit {0}
WrittenPhrase (phrase.Quantifier q binders) = 1 ≤ length binders

-- behind a sort there is a binder
abbrev SomeBound : List BinderSyntax → BinderStage → Type 0
SomeBound bs stage.Next = 1 ≤ length bs
SomeBound bs _ = Unit {0}

abbrev FineBinding : Option Binding → Type 0
FineBinding None = Unit {0}
FineBinding (Some b) = SomeBound b.binders b.stage

abbrev FinePhrases : PhraseReader → Type 0
FinePhrases r = All WrittenPhrase r.done × FineBinding r.pending

same_phrases : (s r : PhraseReader) → Some s ≡ Some r → FinePhrases s → FinePhrases r
same_phrases s r e f = let is : s ≡ r = cc in subst (λ (z : PhraseReader). FinePhrases z) is f

one_more : (bs : List BinderSyntax) (b : BinderSyntax) → 1 ≤ length (bs ++ b ∷ [])
one_more bs b = let e = length-append bs (b ∷ []) in omega arith

module _ (done : List Phrase) (w : All WrittenPhrase done) where
  outside_phrases : (l : Lexeme) → FinePhrases (binding.outside done l)
  outside_phrases (lexeme.Fixed mark.ForAll) = (w, tt)
  outside_phrases (lexeme.Fixed mark.ForSome) = (w, tt)
  outside_phrases (lexeme.Fixed m) = (All-push WrittenPhrase done (phrase.Word (lexeme.Fixed m)) w tt, tt)
  outside_phrases l = (All-push WrittenPhrase done (phrase.Word l) w tt, tt)

  module _ (q : Quantifier) (bs : List BinderSyntax) where
    name_phrases : (l : Lexeme) (r : PhraseReader) → binding.name_next done q bs l ≡ Some r → FinePhrases r
    name_phrases (lexeme.Name x) r e = same_phrases (binding.holds done q bs (stage.Colon x)) r e (w, tt)
    name_phrases _ r e = absurd (cc)

    colon_phrases : (x : List ℕ) (l : Lexeme) (r : PhraseReader) → binding.colon_next done q bs x l ≡ Some r → FinePhrases r
    colon_phrases x (lexeme.Fixed mark.Colon) r e = same_phrases (binding.holds done q bs (stage.Sort x)) r e (w, tt)
    colon_phrases x _ r e = absurd (cc)

    sort_phrases : (x : List ℕ) (l : Lexeme) (r : PhraseReader) → binding.sort_next done q bs x l ≡ Some r → FinePhrases r
    sort_phrases x l r e =
        by (binding.sort_of l) e
      where
        by : (o : Option (List ℕ)) → option_map (λ (s : List ℕ). binding.holds done q (binding.with_binder bs x s) stage.Next) o ≡ Some r → FinePhrases r
        by None e = absurd (cc)
        by (Some s) e = same_phrases (binding.holds done q (binding.with_binder bs x s) stage.Next) r e (w, one_more bs (record { name = x; sort = s }))

    stop_phrases : (l : Lexeme) (r : PhraseReader) → 1 ≤ length bs → binding.stop_next done q bs l ≡ Some r → FinePhrases r
    stop_phrases (lexeme.Fixed mark.Comma) r f e = same_phrases (binding.holds done q bs stage.Name) r e (w, tt)
    stop_phrases (lexeme.Fixed mark.Dot) r f e = same_phrases (binding.closed (done ++ phrase.Quantifier q bs ∷ [])) r e (All-push WrittenPhrase done (phrase.Quantifier q bs) w f, tt)
    stop_phrases _ r f e = absurd (cc)

    at_phrases : (s : BinderStage) (l : Lexeme) (r : PhraseReader) → SomeBound bs s → binding.at done q bs s l ≡ Some r → FinePhrases r
    at_phrases stage.Name l r f e = name_phrases l r e
    at_phrases (stage.Colon x) l r f e = colon_phrases x l r e
    at_phrases (stage.Sort x) l r f e = sort_phrases x l r e
    at_phrases stage.Next l r f e = stop_phrases l r f e

step_phrases : (done : List Phrase) (p : Option Binding) (l : Lexeme) (r : PhraseReader) → All WrittenPhrase done → FineBinding p → binding.step_at p done l ≡ Some r → FinePhrases r
step_phrases done None l r w f e = same_phrases (binding.outside done l) r e (outside_phrases done w l)
step_phrases done (Some b) l r w f e = at_phrases done w b.quantifier b.binders b.stage l r f e

run_phrases : (ls : List Lexeme) (s r : PhraseReader) → FinePhrases s → binding.run ls s ≡ Some r → FinePhrases r
run_phrases [] s r f e = same_phrases s r e f
run_phrases (l ∷ ls) s r f e =
    option_and_then_some (binding.run ls) (binding.step s l) r e (λ x one rest.
    run_phrases ls x r (step_phrases s.done s.pending l x f.0 f.1 one) rest)

ended_phrases : (done : List Phrase) (p : Option Binding) (ps : List Phrase) → All WrittenPhrase done → binding.ended_at p done ≡ Some ps → All WrittenPhrase ps
ended_phrases done None ps w e = let is : done ≡ ps = cc in subst (All WrittenPhrase) is w
ended_phrases done (Some b) ps w e = absurd (cc)

-- each quantifier that is put together binds a name or more
written_phrases : (ls : List Lexeme) (ps : List Phrase) → binding.phrases_of ls ≡ Some ps → All WrittenPhrase ps
written_phrases ls ps e =
    option_and_then_some binding.ended (binding.run ls (binding.closed [])) ps e (λ r all end.
    ended_phrases r.done r.pending ps (run_phrases ls (binding.closed []) r (All-nil WrittenPhrase, tt) all).0 end)

-- a term that is low where so many calls are open
abbrev Fits : ℕ → TermSyntax → Type 0
Fits n t = (has_args t ≡ true) × (n + term_height t ≤ 1264)

fits_word : (n : ℕ) (t : TermSyntax) → n ≤ 1263 → has_args t ≡ true → term_height t ≡ 1 → Fits n t
fits_word n t few a h = (a, omega (arith, few, h))

written_of : (n : ℕ) (t : TermSyntax) → n ≡ 0 → Fits n t → Written t
written_of n t e f = (f.0, omega (arith, e, f.1))

more_args : (b : Bool) (more : List Bool) → b ≡ true → some_all more ≡ true → some_all (b ∷ more) ≡ true
more_args b [] e h = absurd (cc)
more_args b (c ∷ cs) e h = ap (λ (z : Bool). if z then some_all (c ∷ cs) else false) e ∙ h

module _ (n : ℕ) (t : TermSyntax) (f : Fits n t) where
  args_filled : (ts : List TermSyntax) → All (Fits n) ts → some_all (map has_args (ts ++ t ∷ [])) ≡ true
  args_filled [] all = f.0
  args_filled (u ∷ us) all = more_args (has_args u) (map has_args (us ++ t ∷ [])) (All-head (Fits n) u us all).0 (args_filled us (All-tail (Fits n) u us all))

  args_low : (ts : List TermSyntax) → All (Fits n) ts → n + greatest (map term_height (ts ++ t ∷ [])) ≤ 1264
  args_low [] all = let l = f.1 in omega arith
  args_low (u ∷ us) all =
      let first = (All-head (Fits n) u us all).1 in
      let rest = args_low us (All-tail (Fits n) u us all) in
      omega arith

  -- a call that is closed, in which it is the last argument
  fits_call : (h : HeadName) (ts : List TermSyntax) → 1 ≤ n → All (Fits n) ts → Fits (n - 1) (closed_call (record { head = h; args = ts }) t)
  fits_call h ts some all =
      let height = height-Applied h (ts ++ t ∷ []) in
      let low = args_low ts all in
      (has_args-Applied h (ts ++ t ∷ []) ∙ args_filled ts all, omega arith)

-- the arguments of the open calls, n of which are open, the innermost first
abbrev FineCalls : List Call → ℕ → Type 0
FineCalls [] n = n ≡ 0
FineCalls (c ∷ calls) n = (1 ≤ n) × All (Fits n) c.args × FineCalls calls (n - 1)

abbrev FineLeft : Option TermSyntax → Type 0
FineLeft None = Unit {0}
FineLeft (Some s) = Written s

abbrev FineLast : ℕ → Option TermSyntax → Type 0
FineLast n None = Unit {0}
FineLast n (Some t) = Fits n t

-- what is held is written so far
record Holds (items : List Item) (left : Option TermSyntax) (calls : List Call) (n : ℕ) (last : Option TermSyntax) : Type 0 where
  written : All WrittenItem items
  side : FineLeft left
  filled : FineCalls calls n
  few : n ≤ 1263
  low : FineLast n last

abbrev Fine : ItemReader → Type 0
Fine r = Holds r.items r.left r.calls r.count r.last

same_reader : (s r : ItemReader) → Some s ≡ Some r → Fine s → Fine r
same_reader s r e f = let is : s ≡ r = cc in subst (λ (z : ItemReader). Fine z) is f

-- a term that is one word comes
placed_fine : (o : Option TermSyntax) (r s : ItemReader) (t : TermSyntax) → Fine r → has_args t ≡ true → term_height t ≡ 1 → placed_at o r t ≡ Some s → Fine s
placed_fine None r s t f a h e = same_reader (reads r.items r.left r.calls r.count (Some t)) s e (record { written = f.written; side = f.side; filled = f.filled; few = f.few; low = fits_word r.count t f.few a h })
placed_fine (Some u) r s t f a h e = absurd (cc)

flushed_fine : (items now : List Item) (left last : Option TermSyntax) (n : ℕ) → n ≡ 0 → All WrittenItem items → FineLeft left → FineLast n last → flushed items left last ≡ Some now → All WrittenItem now
flushed_fine items now None None n z w f l e = let is : items ≡ now = cc in subst (All WrittenItem) is w
flushed_fine items now None (Some t) n z w f l e = let is : items ++ item.Term t ∷ [] ≡ now = cc in subst (All WrittenItem) is (All-push WrittenItem items (item.Term t) w (written_of n t z l))
flushed_fine items now (Some s) (Some t) n z w f l e = let is : items ++ item.Equal s t ∷ [] ≡ now = cc in subst (All WrittenItem) is (All-push WrittenItem items (item.Equal s t) w (f, written_of n t z l))
flushed_fine items now (Some s) None n z w f l e = absurd (cc)

none_open : (calls : List Call) (n : ℕ) → calls ≡ [] → FineCalls calls n → n ≡ 0
none_open calls n e f = subst (λ (z : List Call). FineCalls z n) e f

-- an item that ends what was read before it, where no call is open
item_fine : (r s : ItemReader) (i : Item) → Fine r → r.calls ≡ [] → WrittenItem i → with_item r i ≡ Some s → Fine s
item_fine r s i f is w e = go (flushed r.items r.left r.last) refl e
  where
    go : (o : Option (List Item)) → flushed r.items r.left r.last ≡ o → option_map (with_next i) (option_map (emptied r) o) ≡ Some s → Fine s
    go None h e = absurd (cc)
    go (Some now) h e =
        let all = flushed_fine r.items now r.left r.last r.count (none_open r.calls r.count is f.filled) f.written f.side f.low h in
        same_reader (reads (now ++ i ∷ []) None r.calls r.count None) s e (record { written = All-push WrittenItem now i all w; side = tt; filled = f.filled; few = f.few; low = tt })

-- a bracket opens behind a head
opened_fine : (items : List Item) (left : Option TermSyntax) (calls : List Call) (n : ℕ) (t : TermSyntax) (s : ItemReader) → All WrittenItem items → FineLeft left → FineCalls calls n → opened (reads items left calls n None) t ≡ Some s → Fine s
opened_fine items left calls n t s w side filled e = go (nat_lt n 1263) (head_of t) refl e
  where
    go : (b : Bool) (o : Option HeadName) → nat_lt n 1263 ≡ b → (if b then option_map (λ (h : HeadName). reads items left (call_of h ∷ calls) (n + 1) None) o else None) ≡ Some s → Fine s
    go false o few e = absurd (cc)
    go true None few e = absurd (cc)
    go true (Some k) few e =
        let lt : n < 1263 = grind (arith, nat_tests) in
        let back : n ≡ n + 1 - 1 = omega arith in
        same_reader (reads items left (call_of k ∷ calls) (n + 1) None) s e (record { written = w; side = side; filled = (omega arith, All-nil (Fits (n + 1)), subst (FineCalls calls) back filled); few = omega (arith, lt); low = tt })

equals_fine : (r s : ItemReader) (left last : Option TermSyntax) → Fine r → r.last ≡ last → r.calls ≡ [] → equals_at left last r ≡ Some s → Fine s
equals_fine r s None (Some t) f b c e = same_reader (reads r.items (Some t) r.calls r.count None) s e (record { written = f.written; side = written_of r.count t (none_open r.calls r.count c f.filled) (subst (FineLast r.count) b f.low); filled = f.filled; few = f.few; low = tt })
equals_fine r s None None f b c e = absurd (cc)
equals_fine r s (Some u) None f b c e = absurd (cc)
equals_fine r s (Some u) (Some t) f b c e = absurd (cc)

open_fine : (r s : ItemReader) (last : Option TermSyntax) → Fine r → r.calls ≡ [] → open_at last r ≡ Some s → Fine s
open_fine r s None f c e = item_fine r s (item.Fixed mark.Open) f c tt e
open_fine r s (Some t) f c e = opened_fine r.items r.left r.calls r.count t s f.written f.side f.filled e

outside_fine : (r s : ItemReader) (m : Mark) → Fine r → r.calls ≡ [] → outside r m ≡ Some s → Fine s
outside_fine r s mark.Open f c e = open_fine r s r.last f c e
outside_fine r s mark.Equals f c e = equals_fine r s r.left r.last f refl c e
outside_fine r s m f c e = item_fine r s (item.Fixed m) f c tt e

module _ (items : List Item) (left : Option TermSyntax) (c : Call) (calls : List Call) (n : ℕ) (t : TermSyntax) (s : ItemReader) (f : Holds items left (c ∷ calls) n (Some t)) where
  inside_fine : (m : Mark) → inside (reads items left calls n None) c t m ≡ Some s → Fine s
  inside_fine mark.Open e = opened_fine items left (c ∷ calls) n t s f.written f.side f.filled e
  inside_fine mark.Comma e =
      let filled = f.filled in
      same_reader (reads items left (with_arg c t ∷ calls) n None) s e (record { written = f.written; side = f.side; filled = (filled.0, All-push (Fits n) c.args t filled.1 f.low, filled.2); few = f.few; low = tt })
  inside_fine mark.Close e =
      let filled = f.filled in
      let few = f.few in
      same_reader (reads items left calls (n - 1) (Some (closed_call c t))) s e (record { written = f.written; side = f.side; filled = filled.2; few = omega arith; low = fits_call n t f.low c.head c.args filled.0 filled.1 })
  inside_fine _ e = absurd (cc)

inside_at_fine : (r s : ItemReader) (o : Option TermSyntax) (c : Call) (calls : List Call) (m : Mark) → Fine r → r.last ≡ o → r.calls ≡ c ∷ calls → inside_at o r c calls m ≡ Some s → Fine s
inside_at_fine r s None c calls m f a b e = absurd (cc)
inside_at_fine r s (Some t) c calls m f a b e = inside_fine r.items r.left c calls r.count t s (record { written = f.written; side = f.side; filled = subst (λ (z : List Call). FineCalls z r.count) b f.filled; few = f.few; low = subst (FineLast r.count) a f.low }) m e

mark_fine : (r s : ItemReader) (calls : List Call) (m : Mark) → Fine r → r.calls ≡ calls → mark_at calls r m ≡ Some s → Fine s
mark_fine r s [] m f a e = outside_fine r s m f a e
mark_fine r s (c ∷ calls) m f a e = inside_at_fine r s r.last c calls m f refl a e

word_fine : (r s : ItemReader) (l : Lexeme) → Fine r → word_next r l ≡ Some s → Fine s
word_fine r s (lexeme.Number k) f e = placed_fine r.last r s (term.Number k) f (has_args-Number k) (height-Number k) e
word_fine r s (lexeme.RowVar k o) f e = placed_fine r.last r s (term.RowVar k o) f (has_args-RowVar k o) (height-RowVar k o) e
word_fine r s (lexeme.Name x) f e = placed_fine r.last r s (term.Alone (head.Name x)) f (has_args-Alone (head.Name x)) (height-Alone (head.Name x)) e
word_fine r s (lexeme.Skolem x) f e = placed_fine r.last r s (term.Alone (head.Skolem x)) f (has_args-Alone (head.Skolem x)) (height-Alone (head.Skolem x)) e
word_fine r s (lexeme.Fixed m) f e = mark_fine r s r.calls m f refl e

quantifier_fine : (r s : ItemReader) (calls : List Call) (q : Quantifier) (binders : List BinderSyntax) → Fine r → 1 ≤ length binders → r.calls ≡ calls → quantifier_at calls r q binders ≡ Some s → Fine s
quantifier_fine r s [] q binders f w a e = item_fine r s (item.Quantifier q binders) f a w e
quantifier_fine r s (c ∷ calls) q binders f w a e = absurd (cc)

step_fine : (r s : ItemReader) (p : Phrase) → Fine r → WrittenPhrase p → step r p ≡ Some s → Fine s
step_fine r s (phrase.Word l) f w e = word_fine r s l f e
step_fine r s (phrase.Quantifier q binders) f w e = quantifier_fine r s r.calls q binders f w refl e

run_fine : (ps : List Phrase) (r s : ItemReader) → Fine r → All WrittenPhrase ps → run ps r ≡ Some s → Fine s
run_fine [] r s f w e = same_reader r s e f
run_fine (p ∷ ps) r s f w e =
    option_and_then_some (run ps) (step r p) s e (λ x one rest.
    run_fine ps x s (step_fine r x p f (All-head WrittenPhrase p ps w) one) (All-tail WrittenPhrase p ps w) rest)

ended_fine : (r : ItemReader) (calls : List Call) (items : List Item) → Fine r → r.calls ≡ calls → ended_at calls r ≡ Some items → All WrittenItem items
ended_fine r [] items f a e = flushed_fine r.items items r.left r.last r.count (none_open r.calls r.count a f.filled) f.written f.side f.low (flushed_items r (flushed r.items r.left r.last) items e)
ended_fine r (c ∷ calls) items f a e = absurd (cc)

start_fine : Fine start
start_fine = record { written = All-nil WrittenItem; side = tt; filled = refl; few = omega arith; low = tt }

-- all items that are read are written
pub written_items : (ls : List Lexeme) (is : List Item) → items_from ls ≡ Some is → All WrittenItem is
written_items ls is e =
    option_and_then_some items_of (binding.phrases_of ls) is e (λ ps first second.
    option_and_then_some ended (run ps start) is second (λ r all end.
    ended_fine r r.calls is (run_fine ps start r start_fine (written_phrases ls ps first) all) refl end))
