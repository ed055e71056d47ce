-- The equations of functions of formulas and outputs as they are written, and induction on them.
use Rattle.std.proofs.Common.{◌≡◌, ℕ, List, [], ◌∷◌, All, map, subst}
use Rattle.std.proofs.lemmas.List.Elements.{All-nil, All-cons}
use denote.Hole.Carrier.{roll}
use Rattle.syn_form.specs.declared.syntax.TermSyntax.{TermSyntax}
use Rattle.syn_form.specs.declared.syntax.Quantifier.{Quantifier}
use Rattle.syn_form.specs.declared.syntax.BinderSyntax.{BinderSyntax}
use Rattle.syn_form.specs.declared.syntax.FormSyntax.{FormSyntax, roll-FormSyntax, map-FormSyntax, fold-FormSyntax, fold-roll-FormSyntax, ind-FormSyntax}
use Rattle.syn_form.specs.declared.syntax.FormSyntax.TheOpen.{FormSyntax-F}
use Rattle.syn_form.specs.declared.syntax.FormSyntax.TheVariants as form
use Rattle.syn_form.specs.declared.syntax.FormSyntax.TheViews as view
use Rattle.syn_form.specs.declared.syntax.OutSyntax.{OutSyntax, roll-OutSyntax, map-OutSyntax, fold-OutSyntax, fold-roll-OutSyntax, ind-OutSyntax}
use Rattle.syn_form.specs.declared.syntax.OutSyntax.TheOpen.{OutSyntax-F}
use Rattle.syn_form.specs.declared.syntax.OutSyntax.TheVariants as out
use Rattle.syn_form.specs.declared.syntax.OutSyntax.TheViews as out_view

module _ {A : Type 0} (step : FormSyntax-F A → A) where
  -- what a fold gives at each case of a formula
  pub fold-True : fold-FormSyntax A step form.True ≡ step FormSyntax-F.True
  unfolding roll-FormSyntax roll
  fold-True = fold-roll-FormSyntax A step FormSyntax-F.True

  pub fold-False : fold-FormSyntax A step form.False ≡ step FormSyntax-F.False
  unfolding roll-FormSyntax roll
  fold-False = fold-roll-FormSyntax A step FormSyntax-F.False

  pub fold-Atom : (r : List ℕ) (args : List TermSyntax) → fold-FormSyntax A step (form.Atom r args) ≡ step (FormSyntax-F.Atom r args)
  unfolding roll-FormSyntax roll
  fold-Atom r args = fold-roll-FormSyntax A step (FormSyntax-F.Atom r args)

  pub fold-Equal : (s t : TermSyntax) → fold-FormSyntax A step (form.Equal s t) ≡ step (FormSyntax-F.Equal s t)
  unfolding roll-FormSyntax roll
  fold-Equal s t = fold-roll-FormSyntax A step (FormSyntax-F.Equal s t)

  pub fold-Not : (a : FormSyntax) → fold-FormSyntax A step (view.Not a) ≡ step (FormSyntax-F.Not (fold-FormSyntax A step a))
  unfolding roll-FormSyntax roll
  fold-Not a = fold-roll-FormSyntax A step (FormSyntax-F.Not a)

  pub fold-And : (all : List FormSyntax) → fold-FormSyntax A step (view.And all) ≡ step (FormSyntax-F.And (map (fold-FormSyntax A step) all))
  unfolding roll-FormSyntax roll
  fold-And all = fold-roll-FormSyntax A step (FormSyntax-F.And all)

  pub fold-Or : (all : List FormSyntax) → fold-FormSyntax A step (view.Or all) ≡ step (FormSyntax-F.Or (map (fold-FormSyntax A step) all))
  unfolding roll-FormSyntax roll
  fold-Or all = fold-roll-FormSyntax A step (FormSyntax-F.Or all)

  pub fold-Implies : (a b : FormSyntax) → fold-FormSyntax A step (view.Implies a b) ≡ step (FormSyntax-F.Implies (fold-FormSyntax A step a) (fold-FormSyntax A step b))
  unfolding roll-FormSyntax roll
  fold-Implies a b = fold-roll-FormSyntax A step (FormSyntax-F.Implies a b)

  pub fold-BothWays : (a b : FormSyntax) → fold-FormSyntax A step (view.BothWays a b) ≡ step (FormSyntax-F.BothWays (fold-FormSyntax A step a) (fold-FormSyntax A step b))
  unfolding roll-FormSyntax roll
  fold-BothWays a b = fold-roll-FormSyntax A step (FormSyntax-F.BothWays a b)

  pub fold-Quantified : (q : Quantifier) (bs : List BinderSyntax) (a : FormSyntax) → fold-FormSyntax A step (view.Quantified q bs a) ≡ step (FormSyntax-F.Quantified q bs (fold-FormSyntax A step a))
  unfolding roll-FormSyntax roll
  fold-Quantified q bs a = fold-roll-FormSyntax A step (FormSyntax-F.Quantified q bs a)

module _ {A : Type 0} (step : OutSyntax-F A → A) where
  -- what a fold gives at each case of an output
  pub fold-Give : (t : TermSyntax) → fold-OutSyntax A step (out.Give t) ≡ step (OutSyntax-F.Give t)
  unfolding roll-OutSyntax roll
  fold-Give t = fold-roll-OutSyntax A step (OutSyntax-F.Give t)

  pub fold-If : (f : FormSyntax) (u v : OutSyntax) → fold-OutSyntax A step (out_view.If f u v) ≡ step (OutSyntax-F.If f (fold-OutSyntax A step u) (fold-OutSyntax A step v))
  unfolding roll-OutSyntax roll
  fold-If f u v = fold-roll-OutSyntax A step (OutSyntax-F.If f u v)

-- a syntax tree with what holds of it
abbrev With : {A : Type 0} → (A → Type 0) → Type 0
With {A} P = (x : A) × P x

abbrev tree_of : {A : Type 0} → (P : A → Type 0) → With P → A
tree_of P e = e.0

all_held : {A : Type 0} → (P : A → Type 0) → (xs : List (With P)) → All P (map (tree_of P) xs)
all_held P [] = All-nil P
all_held P (x ∷ xs) = All-cons P x.0 (map (tree_of P) xs) x.1 (all_held P xs)

pub record FormSyntaxCases (P : FormSyntax → Type 0) : Type 0 where
  pub at_true : P form.True
  pub at_false : P form.False
  pub at_atom : (r : List ℕ) (args : List TermSyntax) → P (form.Atom r args)
  pub at_equal : (s t : TermSyntax) → P (form.Equal s t)
  pub at_not : (a : FormSyntax) → P a → P (view.Not a)
  pub at_and : (all : List FormSyntax) → All P all → P (view.And all)
  pub at_or : (all : List FormSyntax) → All P all → P (view.Or all)
  pub at_implies : (a b : FormSyntax) → P a → P b → P (view.Implies a b)
  pub at_both_ways : (a b : FormSyntax) → P a → P b → P (view.BothWays a b)
  pub at_quantified : (q : Quantifier) (bs : List BinderSyntax) (a : FormSyntax) → P a → P (view.Quantified q bs a)

module _ (P : FormSyntax → Type 0) (c : FormSyntaxCases P) where
  form_step : (y : FormSyntax-F (With P)) → P (roll-FormSyntax (map-FormSyntax (With P) FormSyntax (tree_of P) y))
  unfolding roll-FormSyntax roll
  form_step FormSyntax-F.True = c.at_true
  form_step FormSyntax-F.False = c.at_false
  form_step (FormSyntax-F.Atom r args) = c.at_atom r args
  form_step (FormSyntax-F.Equal s t) = c.at_equal s t
  form_step (FormSyntax-F.Not a) = c.at_not a.0 a.1
  form_step (FormSyntax-F.And all) = c.at_and (map (tree_of P) all) (all_held P all)
  form_step (FormSyntax-F.Or all) = c.at_or (map (tree_of P) all) (all_held P all)
  form_step (FormSyntax-F.Implies a b) = c.at_implies a.0 b.0 a.1 b.1
  form_step (FormSyntax-F.BothWays a b) = c.at_both_ways a.0 b.0 a.1 b.1
  form_step (FormSyntax-F.Quantified q bs a) = c.at_quantified q bs a.0 a.1

  -- what holds of each formula whose parts it holds of, holds of all
  pub by_form_syntax : (s : FormSyntax) → P s
  by_form_syntax = ind-FormSyntax P (λ x y is. subst (λ (z : FormSyntax-F FormSyntax). P (roll-FormSyntax z)) is (form_step y))

module _ (P : OutSyntax → Type 0) (give : (t : TermSyntax) → P (out.Give t)) (choice : (f : FormSyntax) (u v : OutSyntax) → P u → P v → P (out_view.If f u v)) where
  out_step : (y : OutSyntax-F (With P)) → P (roll-OutSyntax (map-OutSyntax (With P) OutSyntax (tree_of P) y))
  unfolding roll-OutSyntax roll
  out_step (OutSyntax-F.Give t) = give t
  out_step (OutSyntax-F.If f u v) = choice f u.0 v.0 u.1 v.1

  -- what holds of each output whose arms it holds of, holds of all
  pub by_out_syntax : (o : OutSyntax) → P o
  by_out_syntax = ind-OutSyntax P (λ x y is. subst (λ (z : OutSyntax-F OutSyntax). P (roll-OutSyntax z)) is (out_step y))
