-- The equations of functions of terms as they are written, and induction on them.
use Rattle.std.proofs.Common.{◌≡◌, ℕ, List, [], ◌∷◌, Option, All, map, subst}
use Rattle.std.proofs.lemmas.List.Elements.{All-nil, All-cons}
use denote.Hole.Carrier.{roll}
use Rattle.syn_form.specs.declared.syntax.HeadName.{HeadName}
use Rattle.syn_form.specs.declared.syntax.TermSyntax.{TermSyntax, roll-TermSyntax, map-TermSyntax, fold-TermSyntax, fold-roll-TermSyntax, ind-TermSyntax}
use Rattle.syn_form.specs.declared.syntax.TermSyntax.TheOpen.{TermSyntax-F}
use Rattle.syn_form.specs.declared.syntax.TermSyntax.TheVariants as term
use Rattle.syn_form.specs.declared.syntax.TermSyntax.TheViews as view

module _ {A : Type 0} (step : TermSyntax-F A → A) where
  -- what a fold gives at each case
  pub fold-Number : (k : ℕ) → fold-TermSyntax A step (term.Number k) ≡ step (TermSyntax-F.Number k)
  unfolding roll-TermSyntax roll
  fold-Number k = fold-roll-TermSyntax A step (TermSyntax-F.Number k)

  pub fold-RowVar : (k : ℕ) (s : Option (List ℕ)) → fold-TermSyntax A step (term.RowVar k s) ≡ step (TermSyntax-F.RowVar k s)
  unfolding roll-TermSyntax roll
  fold-RowVar k s = fold-roll-TermSyntax A step (TermSyntax-F.RowVar k s)

  pub fold-Alone : (h : HeadName) → fold-TermSyntax A step (term.Alone h) ≡ step (TermSyntax-F.Alone h)
  unfolding roll-TermSyntax roll
  fold-Alone h = fold-roll-TermSyntax A step (TermSyntax-F.Alone h)

  pub fold-Applied : (h : HeadName) (args : List TermSyntax) → fold-TermSyntax A step (view.Applied h args) ≡ step (TermSyntax-F.Applied h (map (fold-TermSyntax A step) args))
  unfolding roll-TermSyntax roll
  fold-Applied h args = fold-roll-TermSyntax A step (TermSyntax-F.Applied h args)

-- a syntax tree with what holds of it
abbrev With : (TermSyntax → Type 0) → Type 0
With P = (x : TermSyntax) × P x

abbrev tree_of : (P : TermSyntax → Type 0) → With P → TermSyntax
tree_of P e = e.0

all_held : (P : TermSyntax → Type 0) (xs : List (With P)) → All P (map (tree_of P) xs)
all_held P [] = All-nil P
all_held P (x ∷ xs) = All-cons P x.0 (map (tree_of P) xs) x.1 (all_held P xs)

module _ (P : TermSyntax → Type 0) (number : (k : ℕ) → P (term.Number k)) (row : (k : ℕ) (s : Option (List ℕ)) → P (term.RowVar k s)) (alone : (h : HeadName) → P (term.Alone h)) (applied : (h : HeadName) (args : List TermSyntax) → All P args → P (view.Applied h args)) where
  syntax_step : (y : TermSyntax-F (With P)) → P (roll-TermSyntax (map-TermSyntax (With P) TermSyntax (tree_of P) y))
  unfolding roll-TermSyntax roll
  syntax_step (TermSyntax-F.Number k) = number k
  syntax_step (TermSyntax-F.RowVar k s) = row k s
  syntax_step (TermSyntax-F.Alone h) = alone h
  syntax_step (TermSyntax-F.Applied h args) = applied h (map (tree_of P) args) (all_held P args)

  -- what holds of each syntax tree whose arguments it holds of, holds of all
  pub by_term_syntax : (s : TermSyntax) → P s
  by_term_syntax = ind-TermSyntax P (λ x y is. subst (λ (z : TermSyntax-F TermSyntax). P (roll-TermSyntax z)) is (syntax_step y))
