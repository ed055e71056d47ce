-- The text of a formula with quantifiers at each connective and quantifier, from the texts of its parts.
use Rattle.std.proofs.Common.{◌≡◌, ℕ, List, ◌++◌, map, codes, sym, ◌∙◌, ap}
use Rattle.std.proofs.lemmas.Simd.{map-map}
use denote.Hole.Carrier.{roll}
use Rattle.syn_form.specs.declared.trees.Binder.{Binder}
use Rattle.syn_form.specs.declared.trees.QForm.{roll-QForm, fold-roll-QForm}
use Rattle.syn_form.specs.declared.trees.QForm.TheOpen.{QForm-F}
use Rattle.syn_form.specs.declared.trees.QForm.TheViews as view
use Rattle.syn_form.specs.Trees.{QFormTree}
use Rattle.syn_form.specs.Scopes.{TextScope}
use Rattle.syn_form.specs.Printing.{PrintedForm, inner, joined, in_scope_of, print_qform_step, printing_of_qform, printed_qform}
use Rattle.syn_expr.specs.inner.Places.{binder_text}

abbrev Printer : Type 0
Printer = TextScope → PrintedForm

module _ (scope : TextScope) where
  -- a formula as it stands inside another
  abbrev pub inner_qtext : QFormTree → List ℕ
  inner_qtext f = inner (printing_of_qform f scope)

  abbrev pub chain_text : List ℕ → List QFormTree → List ℕ
  chain_text between all = joined between (map inner_qtext all)

  parts_are : (between : List ℕ) (all xs : List QFormTree) → xs ≡ all → joined between (map (λ (p : Printer). inner (p scope)) (map printing_of_qform all)) ≡ chain_text between xs
  parts_are between all xs same = ap (joined between) (map-map (λ (p : Printer). inner (p scope)) printing_of_qform all) ∙ ap (chain_text between) (sym same)

  pub and_text : (f : QFormTree) (all xs : List QFormTree) → f ≡ view.And all → xs ≡ all → printed_qform scope f ≡ joined (codes " and ") (map inner_qtext xs)
  unfolding roll-QForm roll
  and_text f all xs is same = ap (printed_qform scope) is ∙ (ap (λ (p : Printer). (p scope).text) (fold-roll-QForm Printer print_qform_step (QForm-F.And all)) ∙ parts_are (codes " and ") all xs same)

  pub or_text : (f : QFormTree) (all xs : List QFormTree) → f ≡ view.Or all → xs ≡ all → printed_qform scope f ≡ joined (codes " or ") (map inner_qtext xs)
  unfolding roll-QForm roll
  or_text f all xs is same = ap (printed_qform scope) is ∙ (ap (λ (p : Printer). (p scope).text) (fold-roll-QForm Printer print_qform_step (QForm-F.Or all)) ∙ parts_are (codes " or ") all xs same)

  pub sides_text : (a b left right : QFormTree) → left ≡ a → right ≡ b → inner_qtext a ++ codes " -> " ++ inner_qtext b ≡ inner_qtext left ++ codes " -> " ++ inner_qtext right
  sides_text a b left right is_left is_right = ap (λ (z : QFormTree). inner_qtext z ++ codes " -> " ++ inner_qtext b) (sym is_left) ∙ ap (λ (z : QFormTree). inner_qtext left ++ codes " -> " ++ inner_qtext z) (sym is_right)

  pub implies_text : (f a b left right : QFormTree) → f ≡ view.Implies a b → left ≡ a → right ≡ b → printed_qform scope f ≡ inner_qtext left ++ codes " -> " ++ inner_qtext right
  unfolding roll-QForm roll
  implies_text f a b left right is is_left is_right = ap (printed_qform scope) is ∙ (ap (λ (p : Printer). (p scope).text) (fold-roll-QForm Printer print_qform_step (QForm-F.Implies a b)) ∙ (ap (λ (z : QFormTree). inner_qtext z ++ codes " -> " ++ inner_qtext b) (sym is_left) ∙ ap (λ (z : QFormTree). inner_qtext left ++ codes " -> " ++ inner_qtext z) (sym is_right)))

  -- what is inside of a quantifier is printed with its variable's name in scope
  pub inside_are : (word : List ℕ) (b : Binder) (a body : QFormTree) (place : TextScope) → body ≡ a → place ≡ in_scope_of scope b → binder_text scope word b ++ inner (printing_of_qform a (in_scope_of scope b)) ≡ binder_text scope word b ++ inner (printing_of_qform body place)
  inside_are word b a body place is_body is_place = ap (λ (z : QFormTree). binder_text scope word b ++ inner (printing_of_qform z (in_scope_of scope b))) (sym is_body) ∙ ap (λ (z : TextScope). binder_text scope word b ++ inner (printing_of_qform body z)) (sym is_place)

  pub all_text : (f : QFormTree) (b : Binder) (a body : QFormTree) (place : TextScope) → f ≡ view.All b a → body ≡ a → place ≡ in_scope_of scope b → printed_qform scope f ≡ binder_text scope (codes "all ") b ++ inner (printing_of_qform body place)
  unfolding roll-QForm roll
  all_text f b a body place is is_body is_place = ap (printed_qform scope) is ∙ (ap (λ (p : Printer). (p scope).text) (fold-roll-QForm Printer print_qform_step (QForm-F.All b a)) ∙ inside_are (codes "all ") b a body place is_body is_place)

  pub some_text : (f : QFormTree) (b : Binder) (a body : QFormTree) (place : TextScope) → f ≡ view.Exists b a → body ≡ a → place ≡ in_scope_of scope b → printed_qform scope f ≡ binder_text scope (codes "some ") b ++ inner (printing_of_qform body place)
  unfolding roll-QForm roll
  some_text f b a body place is is_body is_place = ap (printed_qform scope) is ∙ (ap (λ (p : Printer). (p scope).text) (fold-roll-QForm Printer print_qform_step (QForm-F.Exists b a)) ∙ inside_are (codes "some ") b a body place is_body is_place)
