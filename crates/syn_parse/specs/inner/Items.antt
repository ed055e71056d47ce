-- Private: the items of a text: its terms, equalities and quantifiers, each put together, and the marks between them.
use Rattle.std.specs.Prelude.{List, [], ◌∷◌, ◌++◌}
use Rattle.std.specs.List.{flat_map}
use Rattle.syn_form.specs.declared.syntax.Lexeme.{Lexeme}
use Rattle.syn_form.specs.declared.syntax.Mark.TheVariants as mark
use Rattle.syn_form.specs.declared.syntax.HeadName.TheVariants as head
use Rattle.syn_form.specs.declared.syntax.TermSyntax.TheViews as term_view
use Rattle.syn_form.specs.Grammar.{fixed, words_of_term, words_of_quantifier, UnaryText, ConjText, DisjText, ImpText, FormText, OutText, truth, falsity, atom, equality, no, bracket, one_unary, and_also, one_conj, or_also, one_disj, implies, one_imp, both_ways, quantified, give, choice}
use Rattle.syn_parse.specs.declared.items.Item.{Item}
use Rattle.syn_parse.specs.declared.items.Item.TheVariants as item

-- the words of an item
abbrev pub words_of_item : Item → List Lexeme
words_of_item (item.Term t) = words_of_term t
words_of_item (item.Equal s t) = words_of_term s ++ fixed mark.Equals ∷ words_of_term t
words_of_item (item.Quantifier q binders) = words_of_quantifier q binders
words_of_item (item.Fixed m) = fixed m ∷ []

abbrev pub words_of_items : List Item → List Lexeme
words_of_items = flat_map words_of_item

abbrev mutual
  -- the items of a reading, level by level
  pub items_of_unary : UnaryText → List Item
  items_of_unary truth = item.Fixed mark.True ∷ []
  items_of_unary falsity = item.Fixed mark.False ∷ []
  items_of_unary (atom r args) = item.Term (term_view.Applied (head.Name r) args) ∷ []
  items_of_unary (equality s t) = item.Equal s t ∷ []
  items_of_unary (no u) = item.Fixed mark.Not ∷ items_of_unary u
  items_of_unary (bracket f) = item.Fixed mark.Open ∷ items_of_form f ++ item.Fixed mark.Close ∷ []

  pub items_of_conj : ConjText → List Item
  items_of_conj (one_unary u) = items_of_unary u
  items_of_conj (and_also c u) = items_of_conj c ++ item.Fixed mark.And ∷ items_of_unary u

  pub items_of_disj : DisjText → List Item
  items_of_disj (one_conj c) = items_of_conj c
  items_of_disj (or_also d c) = items_of_disj d ++ item.Fixed mark.Or ∷ items_of_conj c

  pub items_of_imp : ImpText → List Item
  items_of_imp (one_disj d) = items_of_disj d
  items_of_imp (implies d i) = items_of_disj d ++ item.Fixed mark.Arrow ∷ items_of_imp i

  pub items_of_form : FormText → List Item
  items_of_form (one_imp i) = items_of_imp i
  items_of_form (both_ways i j) = items_of_imp i ++ item.Fixed mark.BothWays ∷ items_of_imp j
  items_of_form (quantified q binders f) = item.Quantifier q binders ∷ items_of_form f

abbrev pub items_of_out : OutText → List Item
items_of_out (give t) = item.Term t ∷ []
items_of_out (choice f o p) = item.Fixed mark.If ∷ items_of_form f ++ item.Fixed mark.Then ∷ items_of_out o ++ item.Fixed mark.Else ∷ items_of_out p
