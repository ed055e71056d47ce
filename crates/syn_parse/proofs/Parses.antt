-- What words give is the one syntax tree that they stand for, among those that are low.
use Rattle.std.proofs.Common.{◌≡◌, ◌≤◌, List, [], ◌∷◌, Option, None, Some, All, sym, ◌∙◌, ap, subst}
use Rattle.std.proofs.lemmas.List.Elements.{All-head}
use Rattle.std.proofs.lemmas.Option.{option_and_then_some}
use Rattle.std.specs.Option.{option_and_then}
use Rattle.syn_term.specs.Tokens.{Word}
use Rattle.syn_lex.specs.Lexing.{IsTokenWord}
use Rattle.syn_form.specs.declared.syntax.Lexeme.{Lexeme}
use Rattle.syn_form.specs.declared.syntax.TermSyntax.{TermSyntax}
use Rattle.syn_form.specs.declared.syntax.FormSyntax.{FormSyntax}
use Rattle.syn_form.specs.declared.syntax.OutSyntax.{OutSyntax}
use Rattle.syn_form.specs.Grammar.{words_of_term, words_of_form, words_of_out, syntax_of_form, syntax_of_out}
use Rattle.syn_parse.specs.declared.items.Item.{Item}
use Rattle.syn_parse.specs.declared.items.Item.TheVariants as item
use Rattle.syn_parse.specs.Heights.{height_of, out_height}
use Rattle.syn_parse.specs.inner.Items.{items_of_form, items_of_out, words_of_items}
use Rattle.syn_parse.specs.inner.FormMachine as forms
use Rattle.syn_parse.specs.inner.OutMachine as outs
use Rattle.syn_parse.specs.Lexemes.{IsCanonical, IsWrittenBy}
use Rattle.syn_parse.specs.Parsing.{IsFormSyntaxOfWords, IsOutSyntaxOfWords, IsTermSyntaxOfWords, OneSyntax, Parses}
use Rattle.syn_parse.specs.inner.Passes.{Gives, form_from, out_from, term_from, term_step, term_start, term_ended}
use Rattle.syn_parse.proofs.FormComplete as form_complete
use Rattle.syn_parse.proofs.FormSound as form_sound
use Rattle.syn_parse.proofs.ItemComplete.{complete_form, complete_out, complete_term}
use Rattle.syn_parse.proofs.ItemExact.{all_not_nat, form_words, out_words, term_words, words_sound}
use Rattle.syn_parse.proofs.ItemsWritten.{WrittenItem, written_items}
use Rattle.syn_parse.proofs.LexemeLaws.{one_writing}
use Rattle.syn_parse.proofs.OutComplete as out_complete
use Rattle.syn_parse.proofs.OutSound as out_sound
use Rattle.syn_parse.proofs.Passed.{items_from, one_term, passed}
use Rattle.syn_parse.proofs.ReadingsWritten.{written_form, written_out}

low_tree : {ws : List Word} {f : FormSyntax} (k : IsFormSyntaxOfWords ws f) → height_of (syntax_of_form k.reading) ≤ 1264
low_tree k = subst (λ (z : FormSyntax). height_of z ≤ 1264) (sym k.tree) k.low

low_out : {ws : List Word} {o : OutSyntax} (k : IsOutSyntaxOfWords ws o) → out_height (syntax_of_out k.reading) ≤ 1264
low_out k = subst (λ (z : OutSyntax). out_height z ≤ 1264) (sym k.tree) k.low

-- what is read of lexemes is read of their items
term_passed : (ls : List Lexeme) → term_from ls ≡ option_and_then one_term (items_from ls)
term_passed ls = passed term_step term_start term_ended ls

form_passed : (ls : List Lexeme) → form_from ls ≡ option_and_then forms.parsed (items_from ls)
form_passed ls = passed forms.step forms.start forms.ended ls

out_passed : (ls : List Lexeme) → out_from ls ≡ option_and_then outs.parsed (items_from ls)
out_passed ls = passed outs.step outs.start outs.ended ls

-- what is read of the words of a low reading
pub term_from_words : (ws : List Word) (t : TermSyntax) (k : IsTermSyntaxOfWords ws t) → term_from (words_of_term t) ≡ Some t
term_from_words ws t k = term_passed (words_of_term t) ∙ ap (option_and_then one_term) (complete_term t k.written)

pub form_from_words : (ws : List Word) (f : FormSyntax) (k : IsFormSyntaxOfWords ws f) → form_from (words_of_form k.reading) ≡ Some f
form_from_words ws f k = form_passed (words_of_form k.reading) ∙ (ap (option_and_then forms.parsed) (complete_form k.reading k.written) ∙ (form_complete.complete k.reading (low_tree k) ∙ ap (λ (z : FormSyntax). Some z) k.tree))

pub out_from_words : (ws : List Word) (o : OutSyntax) (k : IsOutSyntaxOfWords ws o) → out_from (words_of_out k.reading) ≡ Some o
out_from_words ws o k = out_passed (words_of_out k.reading) ∙ (ap (option_and_then outs.parsed) (complete_out k.reading k.written) ∙ (out_complete.complete k.reading (low_out k) ∙ ap (λ (z : OutSyntax). Some z) k.tree))

-- lexemes of the same words are read alike
one_answer : {S : Type 0} (from : List Lexeme → Option S) (ws : List Word) (ls ms : List Lexeme) (s t : S) → All IsTokenWord ws → IsWrittenBy ws ls → IsWrittenBy ws ms → from ls ≡ Some s → from ms ≡ Some t → s ≡ t
one_answer {S} from ws ls ms s t is k l h i = let e : Some s ≡ Some t = sym h ∙ (ap from (one_writing ws ls ms is k l) ∙ i) in cc

pub one_term_syntax : (ws : List Word) → All IsTokenWord ws → OneSyntax (IsTermSyntaxOfWords ws)
one_term_syntax ws is s t k l = one_answer term_from ws (words_of_term s) (words_of_term t) s t is k.lexemes l.lexemes (term_from_words ws s k) (term_from_words ws t l)

pub one_form_syntax : (ws : List Word) → All IsTokenWord ws → OneSyntax (IsFormSyntaxOfWords ws)
one_form_syntax ws is s t k l = one_answer form_from ws (words_of_form k.reading) (words_of_form l.reading) s t is k.lexemes l.lexemes (form_from_words ws s k) (form_from_words ws t l)

pub one_out_syntax : (ws : List Word) → All IsTokenWord ws → OneSyntax (IsOutSyntaxOfWords ws)
one_out_syntax ws is s t k l = one_answer out_from ws (words_of_out k.reading) (words_of_out l.reading) s t is k.lexemes l.lexemes (out_from_words ws s k) (out_from_words ws t l)

-- the items have the words that they were read from
items_words : (ws : List Word) (ls : List Lexeme) (is : List Item) → IsWrittenBy ws ls → items_from ls ≡ Some is → words_of_items is ≡ ls
items_words ws ls is h e = words_sound ls is (all_not_nat IsCanonical (λ x d. d) ls h.0) e

one_is : (is : List Item) (t : TermSyntax) → one_term is ≡ Some t → is ≡ item.Term t ∷ []
one_is (item.Term u ∷ []) t e = let k : u ≡ t = cc in ap (λ (z : TermSyntax). item.Term z ∷ []) k
one_is [] t e = absurd (cc)
one_is (item.Term u ∷ item.Term v ∷ is) t e = absurd (cc)
one_is (item.Term u ∷ item.Equal v w ∷ is) t e = absurd (cc)
one_is (item.Term u ∷ item.Quantifier q bs ∷ is) t e = absurd (cc)
one_is (item.Term u ∷ item.Fixed m ∷ is) t e = absurd (cc)
one_is (item.Equal u v ∷ is) t e = absurd (cc)
one_is (item.Quantifier q bs ∷ is) t e = absurd (cc)
one_is (item.Fixed m ∷ is) t e = absurd (cc)

-- words stand for what their lexemes give
term_stands : (ws : List Word) (ls : List Lexeme) (t : TermSyntax) → IsWrittenBy ws ls → term_from ls ≡ Some t → IsTermSyntaxOfWords ws t
term_stands ws ls t h e =
    option_and_then_some one_term (items_from ls) t (sym (term_passed ls) ∙ e) (λ is first second.
    let one = one_is is t second in
    let same : ls ≡ words_of_term t = term_words ls is t (items_words ws ls is h first) one in
    let all : All WrittenItem (item.Term t ∷ []) = subst (λ (z : List Item). All WrittenItem z) one (written_items ls is first) in
    record { lexemes = subst (λ (z : List Lexeme). IsWrittenBy ws z) same h; written = All-head WrittenItem (item.Term t) [] all })

form_stands : (ws : List Word) (ls : List Lexeme) (f : FormSyntax) → IsWrittenBy ws ls → form_from ls ≡ Some f → IsFormSyntaxOfWords ws f
form_stands ws ls f h e =
    option_and_then_some forms.parsed (items_from ls) f (sym (form_passed ls) ∙ e) (λ is first second.
    let read = form_sound.sound is f second in
    let same = form_words ls is read.0 (items_words ws ls is h first) read.1 in
    let all : All WrittenItem (items_of_form read.0) = subst (λ (z : List Item). All WrittenItem z) read.1 (written_items ls is first) in
    record { reading = read.0; lexemes = subst (λ (z : List Lexeme). IsWrittenBy ws z) same h; written = written_form read.0 all; tree = sym read.2; low = read.3 })

out_stands : (ws : List Word) (ls : List Lexeme) (o : OutSyntax) → IsWrittenBy ws ls → out_from ls ≡ Some o → IsOutSyntaxOfWords ws o
out_stands ws ls o h e =
    option_and_then_some outs.parsed (items_from ls) o (sym (out_passed ls) ∙ e) (λ is first second.
    let read = out_sound.sound is o second in
    let same = out_words ls is read.0 (items_words ws ls is h first) read.1 in
    let all : All WrittenItem (items_of_out read.0) = subst (λ (z : List Item). All WrittenItem z) read.1 (written_items ls is first) in
    record { reading = read.0; lexemes = subst (λ (z : List Lexeme). IsWrittenBy ws z) same h; written = written_out read.0 all; tree = sym read.2; low = read.3 })

-- what words give is what they stand for
pub term_answer : (ws : List Word) (o : Option TermSyntax) → Gives term_from ws o → Parses (IsTermSyntaxOfWords ws) o
term_answer ws None g = λ s k. let no : Some s ≡ None = sym (term_from_words ws s k) ∙ g.all (words_of_term s) k.lexemes in absurd (cc)
term_answer ws (Some s) g = let k = g.some in term_stands ws k.0 s k.1 k.2

pub form_answer : (ws : List Word) (o : Option FormSyntax) → Gives form_from ws o → Parses (IsFormSyntaxOfWords ws) o
form_answer ws None g = λ s k. let no : Some s ≡ None = sym (form_from_words ws s k) ∙ g.all (words_of_form k.reading) k.lexemes in absurd (cc)
form_answer ws (Some s) g = let k = g.some in form_stands ws k.0 s k.1 k.2

pub out_answer : (ws : List Word) (o : Option OutSyntax) → Gives out_from ws o → Parses (IsOutSyntaxOfWords ws) o
out_answer ws None g = λ s k. let no : Some s ≡ None = sym (out_from_words ws s k) ∙ g.all (words_of_out k.reading) k.lexemes in absurd (cc)
out_answer ws (Some s) g = let k = g.some in out_stands ws k.0 s k.1 k.2
