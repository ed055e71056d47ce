-- The equations of functions of formulas with quantifiers, and induction on them.
use Rattle.std.proofs.Common.{◌≡◌, List, [], ◌∷◌, All, map, subst}
use Rattle.std.proofs.lemmas.List.Elements.{All-nil, All-cons}
use denote.Hole.Carrier.{roll}
use Rattle.syn_term.specs.declared.sorts.SymId.{SymId}
use Rattle.syn_term.specs.Terms.{TermTree}
use Rattle.syn_form.specs.declared.trees.Binder.{Binder}
use Rattle.syn_form.specs.declared.trees.QForm.{QForm, roll-QForm, map-QForm, fold-QForm, fold-roll-QForm, ind-QForm}
use Rattle.syn_form.specs.declared.trees.QForm.TheOpen.{QForm-F}
use Rattle.syn_form.specs.declared.trees.QForm.TheVariants as form
use Rattle.syn_form.specs.declared.trees.QForm.TheViews as view
use Rattle.syn_form.specs.Trees.{QFormTree}

module _ {A : Type 0} (step : QForm-F A → A) where
  -- what a fold gives at each case
  pub qfold-True : fold-QForm A step form.True ≡ step QForm-F.True
  unfolding roll-QForm roll
  qfold-True = fold-roll-QForm A step QForm-F.True

  pub qfold-False : fold-QForm A step form.False ≡ step QForm-F.False
  unfolding roll-QForm roll
  qfold-False = fold-roll-QForm A step QForm-F.False

  pub qfold-Atom : (r : SymId) (args : List TermTree) → fold-QForm A step (form.Atom r args) ≡ step (QForm-F.Atom r args)
  unfolding roll-QForm roll
  qfold-Atom r args = fold-roll-QForm A step (QForm-F.Atom r args)

  pub qfold-Equal : (s t : TermTree) → fold-QForm A step (form.Equal s t) ≡ step (QForm-F.Equal s t)
  unfolding roll-QForm roll
  qfold-Equal s t = fold-roll-QForm A step (QForm-F.Equal s t)

  pub qfold-Not : (a : QFormTree) → fold-QForm A step (view.Not a) ≡ step (QForm-F.Not (fold-QForm A step a))
  unfolding roll-QForm roll
  qfold-Not a = fold-roll-QForm A step (QForm-F.Not a)

  pub qfold-And : (all : List QFormTree) → fold-QForm A step (view.And all) ≡ step (QForm-F.And (map (fold-QForm A step) all))
  unfolding roll-QForm roll
  qfold-And all = fold-roll-QForm A step (QForm-F.And all)

  pub qfold-Or : (all : List QFormTree) → fold-QForm A step (view.Or all) ≡ step (QForm-F.Or (map (fold-QForm A step) all))
  unfolding roll-QForm roll
  qfold-Or all = fold-roll-QForm A step (QForm-F.Or all)

  pub qfold-Implies : (a b : QFormTree) → fold-QForm A step (view.Implies a b) ≡ step (QForm-F.Implies (fold-QForm A step a) (fold-QForm A step b))
  unfolding roll-QForm roll
  qfold-Implies a b = fold-roll-QForm A step (QForm-F.Implies a b)

  pub qfold-All : (b : Binder) (a : QFormTree) → fold-QForm A step (view.All b a) ≡ step (QForm-F.All b (fold-QForm A step a))
  unfolding roll-QForm roll
  qfold-All b a = fold-roll-QForm A step (QForm-F.All b a)

  pub qfold-Exists : (b : Binder) (a : QFormTree) → fold-QForm A step (view.Exists b a) ≡ step (QForm-F.Exists b (fold-QForm A step a))
  unfolding roll-QForm roll
  qfold-Exists b a = fold-roll-QForm A step (QForm-F.Exists b a)

-- a formula with what holds of it
abbrev With : {A : Type 0} → (A → Type 0) → Type 0
With {A} P = (x : A) × P x

abbrev tree_of : {A : Type 0} → (P : A → Type 0) → With P → A
tree_of P e = e.0

all_held : {A : Type 0} → (P : A → Type 0) → (xs : List (With P)) → All P (map (tree_of P) xs)
all_held P [] = All-nil P
all_held P (x ∷ xs) = All-cons P x.0 (map (tree_of P) xs) x.1 (all_held P xs)

pub record QFormCases (P : QFormTree → Type 0) : Type 0 where
  pub at_true : P form.True
  pub at_false : P form.False
  pub at_atom : (r : SymId) (args : List TermTree) → P (form.Atom r args)
  pub at_equal : (s t : TermTree) → P (form.Equal s t)
  pub at_not : (a : QFormTree) → P a → P (view.Not a)
  pub at_and : (all : List QFormTree) → All P all → P (view.And all)
  pub at_or : (all : List QFormTree) → All P all → P (view.Or all)
  pub at_implies : (a b : QFormTree) → P a → P b → P (view.Implies a b)
  pub at_all : (b : Binder) (a : QFormTree) → P a → P (view.All b a)
  pub at_exists : (b : Binder) (a : QFormTree) → P a → P (view.Exists b a)

module _ (P : QFormTree → Type 0) (c : QFormCases P) where
  qform_step : (y : QForm-F (With P)) → P (roll-QForm (map-QForm (With P) QForm (tree_of P) y))
  unfolding roll-QForm roll
  qform_step QForm-F.True = c.at_true
  qform_step QForm-F.False = c.at_false
  qform_step (QForm-F.Atom r args) = c.at_atom r args
  qform_step (QForm-F.Equal s t) = c.at_equal s t
  qform_step (QForm-F.Not a) = c.at_not a.0 a.1
  qform_step (QForm-F.And all) = c.at_and (map (tree_of P) all) (all_held P all)
  qform_step (QForm-F.Or all) = c.at_or (map (tree_of P) all) (all_held P all)
  qform_step (QForm-F.Implies a b) = c.at_implies a.0 b.0 a.1 b.1
  qform_step (QForm-F.All b a) = c.at_all b a.0 a.1
  qform_step (QForm-F.Exists b a) = c.at_exists b a.0 a.1

  -- what holds of each formula whose parts it holds of, holds of all
  pub by_qform_cases : (f : QFormTree) → P f
  by_qform_cases = ind-QForm P (λ x y is. subst (λ (z : QForm-F QForm). P (roll-QForm z)) is (qform_step y))
