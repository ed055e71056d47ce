-- The words of a reading's items are the words of the reading.
use Rattle.std.proofs.Common.{◌≡◌, List, [], ◌∷◌, ◌++◌, refl, sym, ◌∙◌, ap, append-nil, append_assoc}
use Rattle.std.proofs.lemmas.Grind.{flat_map-append}
use Rattle.syn_form.specs.declared.syntax.Lexeme.{Lexeme}
use Rattle.syn_form.specs.declared.syntax.Mark.{Mark}
use Rattle.syn_form.specs.declared.syntax.Mark.TheVariants as mark
use Rattle.syn_form.specs.declared.syntax.HeadName.TheVariants as head
use Rattle.syn_form.specs.declared.syntax.TermSyntax.{TermSyntax}
use Rattle.syn_form.specs.declared.syntax.TermSyntax.TheViews as term_view
use Rattle.syn_form.specs.Grammar.{fixed, words_of_term, words_of_quantifier, words_of_unary, words_of_conj, words_of_disj, words_of_imp, words_of_form, words_of_out, UnaryText, ConjText, DisjText, ImpText, FormText, OutText, truth, falsity, atom, equality, no, bracket, one_unary, and_also, one_conj, or_also, one_disj, implies, one_imp, both_ways, quantified, give, choice}
use Rattle.syn_parse.specs.declared.items.Item.{Item}
use Rattle.syn_parse.specs.declared.items.Item.TheVariants as item
use Rattle.syn_parse.specs.inner.Items.{words_of_item, words_of_items, items_of_unary, items_of_conj, items_of_disj, items_of_imp, items_of_form, items_of_out}
use Rattle.syn_parse.proofs.TermShapes.{words-Applied}

pub words_of_items-append : (xs ys : List Item) → words_of_items (xs ++ ys) ≡ words_of_items xs ++ words_of_items ys
words_of_items-append = flat_map-append words_of_item

pub words_of_items-last : (xs : List Item) (i : Item) → words_of_items (xs ++ i ∷ []) ≡ words_of_items xs ++ words_of_item i
words_of_items-last xs i = words_of_items-append xs (i ∷ []) ∙ ap (λ (z : List Lexeme). words_of_items xs ++ z) (append-nil (words_of_item i))

-- items with a mark between
joined : (xs ys : List Item) (vs ws : List Lexeme) (m : Mark) → words_of_items xs ≡ vs → words_of_items ys ≡ ws → words_of_items (xs ++ item.Fixed m ∷ ys) ≡ vs ++ fixed m ∷ ws
joined xs ys vs ws m a b = words_of_items-append xs (item.Fixed m ∷ ys) ∙ (ap (λ (z : List Lexeme). z ++ fixed m ∷ words_of_items ys) a ∙ ap (λ (z : List Lexeme). vs ++ fixed m ∷ z) b)

mutual
  pub words_of_items-unary : (u : UnaryText) → words_of_items (items_of_unary u) ≡ words_of_unary u
  words_of_items-unary truth = refl
  words_of_items-unary falsity = refl
  words_of_items-unary (atom r args) = append-nil (words_of_term (term_view.Applied (head.Name r) args)) ∙ words-Applied (head.Name r) args
  words_of_items-unary (equality s t) = append-nil (words_of_term s ++ fixed mark.Equals ∷ words_of_term t)
  words_of_items-unary (no u) = ap (λ (z : List Lexeme). fixed mark.Not ∷ z) (words_of_items-unary u)
  words_of_items-unary (bracket f) = ap (λ (z : List Lexeme). fixed mark.Open ∷ z) (joined (items_of_form f) [] (words_of_form f) [] mark.Close (words_of_items-form f) refl)

  pub words_of_items-conj : (c : ConjText) → words_of_items (items_of_conj c) ≡ words_of_conj c
  words_of_items-conj (one_unary u) = words_of_items-unary u
  words_of_items-conj (and_also c u) = joined (items_of_conj c) (items_of_unary u) (words_of_conj c) (words_of_unary u) mark.And (words_of_items-conj c) (words_of_items-unary u)

  pub words_of_items-disj : (d : DisjText) → words_of_items (items_of_disj d) ≡ words_of_disj d
  words_of_items-disj (one_conj c) = words_of_items-conj c
  words_of_items-disj (or_also d c) = joined (items_of_disj d) (items_of_conj c) (words_of_disj d) (words_of_conj c) mark.Or (words_of_items-disj d) (words_of_items-conj c)

  pub words_of_items-imp : (i : ImpText) → words_of_items (items_of_imp i) ≡ words_of_imp i
  words_of_items-imp (one_disj d) = words_of_items-disj d
  words_of_items-imp (implies d i) = joined (items_of_disj d) (items_of_imp i) (words_of_disj d) (words_of_imp i) mark.Arrow (words_of_items-disj d) (words_of_items-imp i)

  pub words_of_items-form : (w : FormText) → words_of_items (items_of_form w) ≡ words_of_form w
  words_of_items-form (one_imp i) = words_of_items-imp i
  words_of_items-form (both_ways i j) = joined (items_of_imp i) (items_of_imp j) (words_of_imp i) (words_of_imp j) mark.BothWays (words_of_items-imp i) (words_of_items-imp j)
  words_of_items-form (quantified q binders f) = ap (λ (z : List Lexeme). words_of_quantifier q binders ++ z) (words_of_items-form f)

pub words_of_items-term : (t : TermSyntax) → words_of_items (item.Term t ∷ []) ≡ words_of_term t
words_of_items-term t = append-nil (words_of_term t)

pub words_of_items-out : (w : OutText) → words_of_items (items_of_out w) ≡ words_of_out w
words_of_items-out (give t) = words_of_items-term t
words_of_items-out (choice f o p) =
    let arms = joined (items_of_out o) (items_of_out p) (words_of_out o) (words_of_out p) mark.Else (words_of_items-out o) (words_of_items-out p) in
    ap (λ (z : List Lexeme). fixed mark.If ∷ z) (split ∙ joined (items_of_form f) (items_of_out o ++ item.Fixed mark.Else ∷ items_of_out p) (words_of_form f) (words_of_out o ++ fixed mark.Else ∷ words_of_out p) mark.Then (words_of_items-form f) arms ∙ sym grouped)
  where
    split : words_of_items (items_of_form f ++ item.Fixed mark.Then ∷ items_of_out o ++ item.Fixed mark.Else ∷ items_of_out p) ≡ words_of_items (items_of_form f ++ (item.Fixed mark.Then ∷ (items_of_out o ++ item.Fixed mark.Else ∷ items_of_out p)))
    split = ap words_of_items (append_assoc (items_of_form f) (item.Fixed mark.Then ∷ items_of_out o) (item.Fixed mark.Else ∷ items_of_out p))

    grouped : words_of_form f ++ fixed mark.Then ∷ words_of_out o ++ fixed mark.Else ∷ words_of_out p ≡ words_of_form f ++ (fixed mark.Then ∷ (words_of_out o ++ fixed mark.Else ∷ words_of_out p))
    grouped = append_assoc (words_of_form f) (fixed mark.Then ∷ words_of_out o) (fixed mark.Else ∷ words_of_out p)
