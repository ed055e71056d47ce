-- The text of a formula at each connective, from the texts of its parts.
use Rattle.std.proofs.Common.{◌≡◌, ℕ, List, ◌++◌, map, codes, sym, ◌∙◌, ap}
use Rattle.std.proofs.lemmas.Simd.{map-map}
use Rattle.syn_form.specs.declared.trees.Form.TheViews as view
use Rattle.syn_form.specs.Trees.{FormTree}
use Rattle.syn_form.specs.Scopes.{TextScope}
use Rattle.syn_form.specs.Printing.{PrintedForm, inner, joined, print_form_step, printing_of_form, printed_form}
use Rattle.syn_form.proofs.Equations.{fold-And, fold-Or, fold-Implies}

module _ (scope : TextScope) where
  -- a formula as it stands inside another
  abbrev pub inner_text : FormTree → List ℕ
  inner_text f = inner (printing_of_form scope f)

  abbrev chain_text : List ℕ → List FormTree → List ℕ
  chain_text between all = joined between (map inner_text all)

  parts_are : (between : List ℕ) (all xs : List FormTree) → xs ≡ all → joined between (map inner (map (printing_of_form scope) all)) ≡ chain_text between xs
  parts_are between all xs same = ap (joined between) (map-map inner (printing_of_form scope) all) ∙ ap (chain_text between) (sym same)

  pub and_text : (f : FormTree) (all xs : List FormTree) → f ≡ view.And all → xs ≡ all → printed_form scope f ≡ joined (codes " and ") (map inner_text xs)
  and_text f all xs is same = ap (printed_form scope) is ∙ (ap (λ (p : PrintedForm). p.text) (fold-And (print_form_step scope) all) ∙ parts_are (codes " and ") all xs same)

  pub or_text : (f : FormTree) (all xs : List FormTree) → f ≡ view.Or all → xs ≡ all → printed_form scope f ≡ joined (codes " or ") (map inner_text xs)
  or_text f all xs is same = ap (printed_form scope) is ∙ (ap (λ (p : PrintedForm). p.text) (fold-Or (print_form_step scope) all) ∙ parts_are (codes " or ") all xs same)

  pub implies_text : (f a b left right : FormTree) → f ≡ view.Implies a b → left ≡ a → right ≡ b → printed_form scope f ≡ inner_text left ++ codes " -> " ++ inner_text right
  implies_text f a b left right is is_left is_right = ap (printed_form scope) is ∙ (ap (λ (p : PrintedForm). p.text) (fold-Implies (print_form_step scope) a b) ∙ (ap (λ (z : FormTree). inner_text z ++ codes " -> " ++ inner_text b) (sym is_left) ∙ ap (λ (z : FormTree). inner_text left ++ codes " -> " ++ inner_text z) (sym is_right)))
