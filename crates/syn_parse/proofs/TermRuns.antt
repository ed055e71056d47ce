-- The reader of terms reads each term that is low enough, whatever stands before it.
use Rattle.std.proofs.Common.{◌≡◌, ℕ, ◌+◌, ◌-◌, ◌≤◌, ◌<◌, nat_lt, Bool, true, false, if◌then◌else◌, List, [], ◌∷◌, ◌++◌, map, Option, None, Some, option_and_then, option_map, refl, sym, ◌∙◌, ap, arith, append_assoc}
use Rattle.std.proofs.lemmas.Bool.Decides.{nat_tests}
use Rattle.std.proofs.lemmas.List.{map-append}
use Rattle.syn_term.specs.Terms.{greatest}
use Rattle.syn_form.specs.declared.syntax.Mark.TheVariants as mark
use Rattle.syn_form.specs.declared.syntax.Lexeme.{Lexeme}
use Rattle.syn_form.specs.declared.syntax.Lexeme.TheVariants as lexeme
use Rattle.syn_form.specs.declared.syntax.HeadName.{HeadName}
use Rattle.syn_form.specs.declared.syntax.HeadName.TheVariants as head
use Rattle.syn_form.specs.declared.syntax.TermSyntax.{TermSyntax}
use Rattle.syn_form.specs.declared.syntax.TermSyntax.TheVariants as term
use Rattle.syn_form.specs.declared.syntax.TermSyntax.TheViews as view
use Rattle.syn_form.specs.Grammar.{fixed, head_lexeme, with_commas, words_of_term}
use Rattle.syn_parse.specs.declared.phrase_reader.Phrase.{Phrase}
use Rattle.syn_parse.specs.declared.phrase_reader.Phrase.TheVariants as phrase
use Rattle.syn_parse.specs.declared.items.Item.{Item}
use Rattle.syn_parse.specs.declared.item_reader.Call.{Call}
use Rattle.syn_parse.specs.declared.item_reader.ItemReader.{ItemReader}
use Rattle.syn_parse.specs.inner.ItemMachine.{reads, head_of, head_layer, call_of, opened, mark_next, step, run}
use Rattle.syn_parse.specs.Written.{term_height, has_args, some_all}
use Rattle.syn_parse.proofs.TermShapes.{words-Number, words-RowVar, words-Alone, words-Applied, height-Applied, has_args-Applied, out-Alone, Each, by_terms, some_height}

-- words as phrases
abbrev pub as_words : List Lexeme → List Phrase
as_words = map (λ l. phrase.Word l)

both_runs : (xs ys : List Phrase) → ((s : ItemReader) → run (xs ++ ys) s ≡ option_and_then (run ys) (run xs s)) → (o : Option ItemReader) → option_and_then (run (xs ++ ys)) o ≡ option_and_then (run ys) (option_and_then (run xs) o)
both_runs xs ys h None = refl
both_runs xs ys h (Some s) = h s

-- phrases after phrases
pub run-append : (xs ys : List Phrase) (r : ItemReader) → run (xs ++ ys) r ≡ option_and_then (run ys) (run xs r)
run-append [] ys r = refl
run-append (x ∷ xs) ys r = both_runs xs ys (λ s. run-append xs ys s) (step r x)

pub then_runs : (xs ys : List Phrase) (r s : ItemReader) → run xs r ≡ Some s → run (xs ++ ys) r ≡ run ys s
then_runs xs ys r s e = run-append xs ys r ∙ ap (option_and_then (run ys)) e

-- the reader on words
abbrev pub spelled : List Lexeme → ItemReader → Option ItemReader
spelled ls r = run (as_words ls) r

pub then_spelled : (xs ys : List Lexeme) (r s : ItemReader) → spelled xs r ≡ Some s → spelled (xs ++ ys) r ≡ spelled ys s
then_spelled xs ys r s e = ap (λ (z : List Phrase). run z r) (map-append (λ l. phrase.Word l) xs ys) ∙ then_runs (as_words xs) (as_words ys) r s e

-- the term is read where one is wanted
abbrev pub Runs : TermSyntax → Type 0
Runs t = (items : List Item) (left : Option TermSyntax) (calls : List Call) (n : ℕ) → has_args t ≡ true → n + term_height t ≤ 1264 → spelled (words_of_term t) (reads items left calls n None) ≡ Some (reads items left calls n (Some t))

runs_word : (t : TermSyntax) (l : Lexeme) → words_of_term t ≡ l ∷ [] → ((items : List Item) (left : Option TermSyntax) (calls : List Call) (n : ℕ) → step (reads items left calls n None) (phrase.Word l) ≡ Some (reads items left calls n (Some t))) → Runs t
runs_word t l words h items left calls n _ _ = ap (λ (z : List Lexeme). spelled z (reads items left calls n None)) words ∙ ap (option_and_then (run [])) (h items left calls n)

head_word : (h : HeadName) (items : List Item) (left : Option TermSyntax) (calls : List Call) (n : ℕ) → step (reads items left calls n None) (phrase.Word (head_lexeme h)) ≡ Some (reads items left calls n (Some (term.Alone h)))
head_word (head.Name x) items left calls n = refl
head_word (head.Skolem x) items left calls n = refl

open_next : (items : List Item) (left : Option TermSyntax) (calls : List Call) (n : ℕ) (t : TermSyntax) → mark_next (reads items left calls n (Some t)) mark.Open ≡ opened (reads items left calls n None) t
open_next items left [] n t = refl
open_next items left (c ∷ calls) n t = refl

-- a bracket opens behind a head, few calls being open
opens : (items : List Item) (left : Option TermSyntax) (calls : List Call) (n : ℕ) (h : HeadName) → n < 1263 → mark_next (reads items left calls n (Some (term.Alone h))) mark.Open ≡ Some (reads items left (call_of h ∷ calls) (n + 1) None)
opens items left calls n h lt =
    let few : nat_lt n 1263 ≡ true = grind (arith, nat_tests) in
    let is : head_of (term.Alone h) ≡ Some h = ap head_layer (out-Alone h) in
    open_next items left calls n (term.Alone h) ∙ (ap (λ (b : Bool). if b then option_map (λ (k : HeadName). reads items left (call_of k ∷ calls) (n + 1) None) (head_of (term.Alone h)) else None) few ∙ ap (option_map (λ (k : HeadName). reads items left (call_of k ∷ calls) (n + 1) None)) is)

abbrev call_with : HeadName → List TermSyntax → Call
call_with h args = record { head = h; args = args }

first_true : (b c : Bool) → (if b then c else false) ≡ true → (b ≡ true) × (c ≡ true)
first_true true c e = (refl, e)
first_true false c e = absurd (cc)

module _ (h : HeadName) (items : List Item) (left : Option TermSyntax) (calls : List Call) (n m : ℕ) (one_less : m - 1 ≡ n) where
  -- the arguments up to the bracket, some of them being read already
  args_run : (done : List TermSyntax) (t : TermSyntax) (ts : List TermSyntax) → Each Runs (t ∷ ts) → some_all (map has_args (t ∷ ts)) ≡ true → m + greatest (map term_height (t ∷ ts)) ≤ 1264 → spelled (with_commas (map words_of_term (t ∷ ts)) ++ fixed mark.Close ∷ []) (reads items left (call_with h done ∷ calls) m None) ≡ Some (reads items left calls n (Some (view.Applied h (done ++ t ∷ ts))))
  args_run done t [] each filled low =
      then_spelled (words_of_term t) (fixed mark.Close ∷ []) (reads items left (call_with h done ∷ calls) m None) (reads items left (call_with h done ∷ calls) m (Some t)) (each.0 items left (call_with h done ∷ calls) m filled (omega (arith, low))) ∙ ap (λ (k : ℕ). Some (reads items left calls k (Some (view.Applied h (done ++ t ∷ []))))) one_less
  args_run done t (u ∷ us) each filled low =
      let f = first_true (has_args t) (some_all (map has_args (u ∷ us))) filled in
      let rest : List Lexeme = with_commas (map words_of_term (u ∷ us)) ++ fixed mark.Close ∷ [] in
      ap (λ (z : List Lexeme). spelled z (reads items left (call_with h done ∷ calls) m None)) (append_assoc (words_of_term t) (fixed mark.Comma ∷ with_commas (map words_of_term (u ∷ us))) (fixed mark.Close ∷ [])) ∙ (then_spelled (words_of_term t) (fixed mark.Comma ∷ rest) (reads items left (call_with h done ∷ calls) m None) (reads items left (call_with h done ∷ calls) m (Some t)) (each.0 items left (call_with h done ∷ calls) m f.0 (omega (arith, low))) ∙ (args_run (done ++ t ∷ []) u us each.1 f.1 (omega (arith, low)) ∙ ap (λ (z : List TermSyntax). Some (reads items left calls n (Some (view.Applied h z)))) (append_assoc done (t ∷ []) (u ∷ us))))

applied_runs : (h : HeadName) (args : List TermSyntax) → Each Runs args → Runs (view.Applied h args)
applied_runs h [] each items left calls n filled low = let e = has_args-Applied h [] in absurd (cc)
applied_runs h (t ∷ ts) each items left calls n filled low =
    let height = height-Applied h (t ∷ ts) in
    let some : 1 ≤ greatest (map term_height (t ∷ ts)) = omega (arith, some_height t) in
    let rest : List Lexeme = with_commas (map words_of_term (t ∷ ts)) ++ fixed mark.Close ∷ [] in
    let all_filled : some_all (map has_args (t ∷ ts)) ≡ true = sym (has_args-Applied h (t ∷ ts)) ∙ filled in
    ap (λ (z : List Lexeme). spelled z (reads items left calls n None)) (words-Applied h (t ∷ ts)) ∙ (ap (option_and_then (run (as_words (fixed mark.Open ∷ rest)))) (head_word h items left calls n) ∙ (ap (option_and_then (run (as_words rest))) (opens items left calls n h (omega (arith, low, height, some))) ∙ args_run h items left calls n (n + 1) (omega arith) [] t ts each all_filled (omega (arith, low, height))))

-- each term is read, that is low enough and has arguments in its brackets
pub term_runs : (t : TermSyntax) → Runs t
term_runs = by_terms Runs
    (λ k. runs_word (term.Number k) (lexeme.Number k) (words-Number k) (λ items left calls n. refl))
    (λ k s. runs_word (term.RowVar k s) (lexeme.RowVar k s) (words-RowVar k s) (λ items left calls n. refl))
    (λ h. runs_word (term.Alone h) (head_lexeme h) (words-Alone h) (head_word h))
    applied_runs
