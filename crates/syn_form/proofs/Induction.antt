-- Induction on formulas and outputs, and what tells their cases apart.
use Rattle.std.proofs.Common.{◌≡◌, ℕ, List, [], ◌∷◌, map, All, sym, ◌∙◌, ap, subst}
use Rattle.std.proofs.lemmas.List.Elements.{All-nil, All-cons}
use Rattle.syn_term.specs.declared.sorts.SymId.{SymId}
use Rattle.syn_term.specs.Terms.{TermTree, bare}
use Rattle.syn_form.specs.declared.trees.Form.{Form, out-Form, roll-Form, map-Form, ind-Form}
use Rattle.syn_form.specs.declared.trees.Form.TheOpen.{Form-F}
use Rattle.syn_form.specs.declared.trees.Form.TheVariants as form
use Rattle.syn_form.specs.declared.trees.Form.TheViews as view
use Rattle.syn_form.specs.declared.trees.Out.{Out, roll-Out, map-Out, ind-Out}
use Rattle.syn_form.specs.declared.trees.Out.TheOpen.{Out-F}
use Rattle.syn_form.specs.declared.trees.Out.TheVariants as out
use Rattle.syn_form.specs.declared.trees.Out.TheViews as out_view
use denote.Hole.Carrier.{roll}
use Rattle.syn_form.specs.Trees.{FormTree, OutTree, bare_form}
use Rattle.syn_form.proofs.Equations.{bare_form-True, bare_form-False, bare_form-Atom, bare_form-Equal, bare_form-Not, bare_form-And, bare_form-Or, bare_form-Implies, out-Atom, out-Equal, out-Not, out-And, out-Or, out-Implies}

-- a tree with what holds of it
abbrev With : {A : Type 0} → (A → Type 0) → Type 0
With {A} P = (x : A) × P x

abbrev tree_of : {A : Type 0} → (P : A → Type 0) → With P → A
tree_of P e = e.0

all_held : {A : Type 0} → (P : A → Type 0) → (xs : List (With P)) → All P (map (tree_of P) xs)
all_held P [] = All-nil P
all_held P (x ∷ xs) = All-cons P x.0 (map (tree_of P) xs) x.1 (all_held P xs)

module _ (P : FormTree → Type 0) (true : P form.True) (false : P form.False) (atom : (r : SymId) (args : List TermTree) → P (form.Atom r args)) (equal : (s t : TermTree) → P (form.Equal s t)) (negation : (a : FormTree) → P a → P (view.Not a)) (conjunction : (all : List FormTree) → All P all → P (view.And all)) (disjunction : (all : List FormTree) → All P all → P (view.Or all)) (implication : (a b : FormTree) → P a → P b → P (view.Implies a b)) where
  form_step : (y : Form-F (With P)) → P (roll-Form (map-Form (With P) Form (tree_of P) y))
  unfolding roll-Form roll
  form_step Form-F.True = true
  form_step Form-F.False = false
  form_step (Form-F.Atom r args) = atom r args
  form_step (Form-F.Equal s t) = equal s t
  form_step (Form-F.Not a) = negation a.0 a.1
  form_step (Form-F.And all) = conjunction (map (tree_of P) all) (all_held P all)
  form_step (Form-F.Or all) = disjunction (map (tree_of P) all) (all_held P all)
  form_step (Form-F.Implies a b) = implication a.0 b.0 a.1 b.1

  -- what holds of each formula whose parts it holds of, holds of all formulas
  pub by_forms : (f : FormTree) → P f
  by_forms = ind-Form P (λ x y is. subst (λ (z : Form-F Form). P (roll-Form z)) is (form_step y))

module _ (P : OutTree → Type 0) (give : (t : TermTree) → P (out.Give t)) (choice : (f : FormTree) (u v : OutTree) → P u → P v → P (out_view.If f u v)) where
  out_step : (y : Out-F (With P)) → P (roll-Out (map-Out (With P) Out (tree_of P) y))
  unfolding roll-Out roll
  out_step (Out-F.Give t) = give t
  out_step (Out-F.If f u v) = choice f u.0 v.0 u.1 v.1

  -- what holds of each output whose arms it holds of, holds of all outputs
  pub by_outs : (o : OutTree) → P o
  by_outs = ind-Out P (λ x y is. subst (λ (z : Out-F Out). P (roll-Out z)) is (out_step y))

abbrev case_layer : {A : Type 0} → Form-F A → ℕ
case_layer Form-F.True = 0
case_layer Form-F.False = 1
case_layer (Form-F.Atom r args) = 2
case_layer (Form-F.Equal s t) = 3
case_layer (Form-F.Not a) = 4
case_layer (Form-F.And all) = 5
case_layer (Form-F.Or all) = 6
case_layer (Form-F.Implies a b) = 7

-- a number for each case of a formula
abbrev pub case_of : FormTree → ℕ
case_of f = case_layer (out-Form f)

-- the tree without places is of the same case
pub case_bare : (f : FormTree) → case_of (bare_form f) ≡ case_of f
case_bare = by_forms (λ f. case_of (bare_form f) ≡ case_of f)
    (ap case_of bare_form-True)
    (ap case_of bare_form-False)
    (λ r args. ap case_of (bare_form-Atom r args) ∙ (ap case_layer (out-Atom r (map bare args)) ∙ sym (ap case_layer (out-Atom r args))))
    (λ s t. ap case_of (bare_form-Equal s t) ∙ (ap case_layer (out-Equal (bare s) (bare t)) ∙ sym (ap case_layer (out-Equal s t))))
    (λ a h. ap case_of (bare_form-Not a) ∙ (ap case_layer (out-Not (bare_form a)) ∙ sym (ap case_layer (out-Not a))))
    (λ all h. ap case_of (bare_form-And all) ∙ (ap case_layer (out-And (map bare_form all)) ∙ sym (ap case_layer (out-And all))))
    (λ all h. ap case_of (bare_form-Or all) ∙ (ap case_layer (out-Or (map bare_form all)) ∙ sym (ap case_layer (out-Or all))))
    (λ a b h k. ap case_of (bare_form-Implies a b) ∙ (ap case_layer (out-Implies (bare_form a) (bare_form b)) ∙ sym (ap case_layer (out-Implies a b))))

-- two formulas that are one tree are of one case
pub cases_same : (f g : FormTree) → bare_form f ≡ bare_form g → case_of f ≡ case_of g
cases_same f g e = sym (case_bare f) ∙ (ap case_of e ∙ case_bare g)
