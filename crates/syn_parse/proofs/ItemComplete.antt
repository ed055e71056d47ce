-- Each reading that is written as the grammar asks is read from its words to its items.
use Rattle.std.proofs.Common.{◌≡◌, true, List, [], ◌∷◌, ◌++◌, Some, option_and_then, refl, sym, ◌∙◌, ap, subst, append_assoc}
use Rattle.syn_form.specs.declared.syntax.Mark.{Mark}
use Rattle.syn_form.specs.declared.syntax.Mark.TheVariants as mark
use Rattle.syn_form.specs.declared.syntax.Lexeme.{Lexeme}
use Rattle.syn_form.specs.declared.syntax.TermSyntax.{TermSyntax}
use Rattle.syn_form.specs.Grammar.{words_of_term, words_of_form, words_of_out, UnaryText, ConjText, DisjText, ImpText, FormText, OutText, truth, falsity, atom, equality, no, bracket, one_unary, and_also, one_conj, or_also, one_disj, implies, one_imp, both_ways, quantified, give, choice}
use Rattle.syn_parse.specs.declared.items.Item.{Item}
use Rattle.syn_parse.specs.declared.items.Item.TheVariants as item
use Rattle.syn_parse.specs.inner.Items.{items_of_unary, items_of_conj, items_of_disj, items_of_imp, items_of_form, items_of_out, words_of_items}
use Rattle.syn_parse.specs.inner.PhraseMachine.{phrases_of}
use Rattle.syn_parse.specs.inner.ItemMachine.{items_of}
use Rattle.syn_parse.specs.Written.{Written, WrittenUnary, WrittenConj, WrittenDisj, WrittenImp, WrittenForm, WrittenOut}
use Rattle.syn_parse.proofs.ItemTexts.{words_of_items-form, words_of_items-out, words_of_items-term}
use Rattle.syn_parse.proofs.ItemRuns.{Apart, Goes, Behind, stops, stands_alone, apart_read}

behind_mark : (i : Item) (m : Mark) → stops m ≡ true → Behind i (item.Fixed m)
behind_mark (item.Term t) m s = s
behind_mark (item.Equal u t) m s = s
behind_mark (item.Quantifier q binders) m s = tt
behind_mark (item.Fixed k) m s = tt

-- items that keep apart, with a mark between
apart_mark : (xs ys : List Item) (m : Mark) → stops m ≡ true → stands_alone m ≡ true → Apart xs → Apart ys → Apart (xs ++ item.Fixed m ∷ ys)
apart_mark [] ys m s a x y = (a, goes ys, y)
  where
    goes : (zs : List Item) → Goes (item.Fixed m) zs
    goes [] = tt
    goes (z ∷ zs) = tt
apart_mark (x ∷ []) ys m s a h y = (h.0, behind_mark x m s, apart_mark [] ys m s a tt y)
apart_mark (x ∷ z ∷ zs) ys m s a h y = (h.0, h.1, apart_mark (z ∷ zs) ys m s a h.2 y)

-- a mark or a quantifier before items that keep apart
apart_first : (m : Mark) (xs : List Item) → stands_alone m ≡ true → Apart xs → Apart (item.Fixed m ∷ xs)
apart_first m [] a h = (a, tt, h)
apart_first m (x ∷ xs) a h = (a, tt, h)

mutual
  apart_unary : (u : UnaryText) → WrittenUnary u → Apart (items_of_unary u)
  apart_unary truth w = (refl, tt, tt)
  apart_unary falsity w = (refl, tt, tt)
  apart_unary (atom r args) w = (w, tt, tt)
  apart_unary (equality s t) w = (w, tt, tt)
  apart_unary (no u) w = apart_first mark.Not (items_of_unary u) refl (apart_unary u w)
  apart_unary (bracket f) w = apart_first mark.Open (items_of_form f ++ item.Fixed mark.Close ∷ []) refl (apart_mark (items_of_form f) [] mark.Close refl refl (apart_form f w) tt)

  apart_conj : (c : ConjText) → WrittenConj c → Apart (items_of_conj c)
  apart_conj (one_unary u) w = apart_unary u w
  apart_conj (and_also c u) w = apart_mark (items_of_conj c) (items_of_unary u) mark.And refl refl (apart_conj c w.0) (apart_unary u w.1)

  apart_disj : (d : DisjText) → WrittenDisj d → Apart (items_of_disj d)
  apart_disj (one_conj c) w = apart_conj c w
  apart_disj (or_also d c) w = apart_mark (items_of_disj d) (items_of_conj c) mark.Or refl refl (apart_disj d w.0) (apart_conj c w.1)

  apart_imp : (i : ImpText) → WrittenImp i → Apart (items_of_imp i)
  apart_imp (one_disj d) w = apart_disj d w
  apart_imp (implies d i) w = apart_mark (items_of_disj d) (items_of_imp i) mark.Arrow refl refl (apart_disj d w.0) (apart_imp i w.1)

  apart_form : (f : FormText) → WrittenForm f → Apart (items_of_form f)
  apart_form (one_imp i) w = apart_imp i w
  apart_form (both_ways i j) w = apart_mark (items_of_imp i) (items_of_imp j) mark.BothWays refl refl (apart_imp i w.0) (apart_imp j w.1)
  apart_form (quantified q binders f) w = (w.0, goes (items_of_form f), apart_form f w.1)
    where
      goes : (zs : List Item) → Goes (item.Quantifier q binders) zs
      goes [] = tt
      goes (z ∷ zs) = tt

apart_out : (w : OutText) → WrittenOut w → Apart (items_of_out w)
apart_out (give t) w = (w, tt, tt)
apart_out (choice f o p) w =
    let arms = apart_mark (items_of_out o) (items_of_out p) mark.Else refl refl (apart_out o w.1) (apart_out p w.2) in
    let all = apart_first mark.If (items_of_form f ++ item.Fixed mark.Then ∷ (items_of_out o ++ item.Fixed mark.Else ∷ items_of_out p)) refl (apart_mark (items_of_form f) (items_of_out o ++ item.Fixed mark.Else ∷ items_of_out p) mark.Then refl refl (apart_form f w.0) arms) in
    subst (λ (z : List Item). Apart (item.Fixed mark.If ∷ z)) (sym (append_assoc (items_of_form f) (item.Fixed mark.Then ∷ items_of_out o) (item.Fixed mark.Else ∷ items_of_out p))) all

-- the items of words that items have which keep apart
words_read : (is : List Item) (ls : List Lexeme) → words_of_items is ≡ ls → Apart is → option_and_then items_of (phrases_of ls) ≡ Some is
words_read is ls e a = ap (λ (z : List Lexeme). option_and_then items_of (phrases_of z)) (sym e) ∙ apart_read is a

pub complete_form : (w : FormText) → WrittenForm w → option_and_then items_of (phrases_of (words_of_form w)) ≡ Some (items_of_form w)
complete_form w h = words_read (items_of_form w) (words_of_form w) (words_of_items-form w) (apart_form w h)

pub complete_out : (w : OutText) → WrittenOut w → option_and_then items_of (phrases_of (words_of_out w)) ≡ Some (items_of_out w)
complete_out w h = words_read (items_of_out w) (words_of_out w) (words_of_items-out w) (apart_out w h)

pub complete_term : (t : TermSyntax) → Written t → option_and_then items_of (phrases_of (words_of_term t)) ≡ Some (item.Term t ∷ [])
complete_term t h = words_read (item.Term t ∷ []) (words_of_term t) (words_of_items-term t) (h, tt, tt)
