-- A reading whose items are written is written.
use Rattle.std.proofs.Common.{List, [], ◌∷◌, ◌++◌, All}
use Rattle.std.proofs.lemmas.List.Elements.{All-nil, All-cons, All-head, All-tail}
use Rattle.syn_form.specs.declared.syntax.Mark.{Mark}
use Rattle.syn_form.specs.declared.syntax.Mark.TheVariants as mark
use Rattle.syn_form.specs.declared.syntax.HeadName.TheVariants as head
use Rattle.syn_form.specs.declared.syntax.TermSyntax.TheViews as term_view
use Rattle.syn_form.specs.Grammar.{UnaryText, ConjText, DisjText, ImpText, FormText, OutText, truth, falsity, atom, equality, no, bracket, one_unary, and_also, one_conj, or_also, one_disj, implies, one_imp, both_ways, quantified, give, choice}
use Rattle.syn_parse.specs.declared.items.Item.{Item}
use Rattle.syn_parse.specs.declared.items.Item.TheVariants as item
use Rattle.syn_parse.specs.inner.Items.{items_of_unary, items_of_conj, items_of_disj, items_of_imp, items_of_form, items_of_out}
use Rattle.syn_parse.specs.Written.{WrittenUnary, WrittenConj, WrittenDisj, WrittenImp, WrittenForm, WrittenOut}
use Rattle.syn_parse.proofs.ItemsWritten.{WrittenItem}

-- each item is written
abbrev pub AllWritten : List Item → Type 0
AllWritten = All WrittenItem

first_item : (i : Item) (is : List Item) → AllWritten (i ∷ is) → WrittenItem i
first_item = All-head WrittenItem

next_items : (i : Item) (is : List Item) → AllWritten (i ∷ is) → AllWritten is
next_items = All-tail WrittenItem

left_items : (xs ys : List Item) → AllWritten (xs ++ ys) → AllWritten xs
left_items [] ys all = All-nil WrittenItem
left_items (x ∷ xs) ys all = All-cons WrittenItem x xs (first_item x (xs ++ ys) all) (left_items xs ys (next_items x (xs ++ ys) all))

right_items : (xs ys : List Item) → AllWritten (xs ++ ys) → AllWritten ys
right_items [] ys all = all
right_items (x ∷ xs) ys all = right_items xs ys (next_items x (xs ++ ys) all)

-- behind a mark
behind : (xs ys : List Item) (m : Mark) → AllWritten (xs ++ item.Fixed m ∷ ys) → AllWritten ys
behind xs ys m all = next_items (item.Fixed m) ys (right_items xs (item.Fixed m ∷ ys) all)

mutual
  written_unary : (u : UnaryText) → AllWritten (items_of_unary u) → WrittenUnary u
  written_unary truth all = tt
  written_unary falsity all = tt
  written_unary (atom r args) all = first_item (item.Term (term_view.Applied (head.Name r) args)) [] all
  written_unary (equality s t) all = first_item (item.Equal s t) [] all
  written_unary (no u) all = written_unary u (next_items (item.Fixed mark.Not) (items_of_unary u) all)
  written_unary (bracket f) all = written_form f (left_items (items_of_form f) (item.Fixed mark.Close ∷ []) (next_items (item.Fixed mark.Open) (items_of_form f ++ item.Fixed mark.Close ∷ []) all))

  written_conj : (c : ConjText) → AllWritten (items_of_conj c) → WrittenConj c
  written_conj (one_unary u) all = written_unary u all
  written_conj (and_also c u) all = (written_conj c (left_items (items_of_conj c) (item.Fixed mark.And ∷ items_of_unary u) all), written_unary u (behind (items_of_conj c) (items_of_unary u) mark.And all))

  written_disj : (d : DisjText) → AllWritten (items_of_disj d) → WrittenDisj d
  written_disj (one_conj c) all = written_conj c all
  written_disj (or_also d c) all = (written_disj d (left_items (items_of_disj d) (item.Fixed mark.Or ∷ items_of_conj c) all), written_conj c (behind (items_of_disj d) (items_of_conj c) mark.Or all))

  written_imp : (i : ImpText) → AllWritten (items_of_imp i) → WrittenImp i
  written_imp (one_disj d) all = written_disj d all
  written_imp (implies d i) all = (written_disj d (left_items (items_of_disj d) (item.Fixed mark.Arrow ∷ items_of_imp i) all), written_imp i (behind (items_of_disj d) (items_of_imp i) mark.Arrow all))

  -- a formula whose items are written
  pub written_form : (w : FormText) → AllWritten (items_of_form w) → WrittenForm w
  written_form (one_imp i) all = written_imp i all
  written_form (both_ways i j) all = (written_imp i (left_items (items_of_imp i) (item.Fixed mark.BothWays ∷ items_of_imp j) all), written_imp j (behind (items_of_imp i) (items_of_imp j) mark.BothWays all))
  written_form (quantified q binders f) all = (first_item (item.Quantifier q binders) (items_of_form f) all, written_form f (next_items (item.Quantifier q binders) (items_of_form f) all))

-- an output whose items are written
pub written_out : (w : OutText) → AllWritten (items_of_out w) → WrittenOut w
written_out (give t) all = first_item (item.Term t) [] all
written_out (choice f o p) all =
    let front = items_of_form f ++ item.Fixed mark.Then ∷ items_of_out o in
    let rest = next_items (item.Fixed mark.If) (front ++ item.Fixed mark.Else ∷ items_of_out p) all in
    let before = left_items front (item.Fixed mark.Else ∷ items_of_out p) rest in
    (written_form f (left_items (items_of_form f) (item.Fixed mark.Then ∷ items_of_out o) before), written_out o (behind (items_of_form f) (items_of_out o) mark.Then before), written_out p (behind front (items_of_out p) mark.Else rest))
