-- For private contracts: how an equality of one row replaces a term of another one that is kept apart, and the row that comes of
-- their instances.
use Rattle.std.specs.Prelude.{◌≡◌, ◌⊎◌, ℕ, false, List, [], ◌∷◌, Option, None, Some}
use Rattle.syn_term.specs.Symbols.{SymbolTable}
use Rattle.syn_term.specs.Terms.{TermTree}
use Rattle.syn_form.specs.declared.trees.Form.TheVariants as form
use Rattle.syn_form.specs.Positions.{at_position, formula, term}
use Rattle.syn_form.specs.Replacing.{form_replaced_at}
use Rattle.syn_form.specs.Substitutions.{IsUnifierOfTerms, Substitution, UnifiesTerms, substituted, substituted_form}
use Rattle.syn_form.specs.Trees.{FormTree}
use Rattle.syn_row.specs.declared.direction.Dir.{Dir}
use Rattle.syn_row.specs.declared.guards.GuardRule.{GuardRule}
use Rattle.syn_row.specs.Results.{Figure}
use Rattle.syn_row.specs.Rows.{RowTree}
use Rattle.syn_unify.specs.Bindings.{HasNoUnifier}
use Rattle.syn_resolve.specs.Replacement.{looked_for, put_there, replaced}
use Rattle.syn_resolve.specs.inner.Reflexing.{FigureGives}
use Rattle.syn_resolve.specs.inner.Resolving.{row_joined}

-- an equality stands in the first formula and a term in the second, and this is a most general unifier of the side that is looked for
-- and the term
pub record UnifiesSide (table : SymbolTable) (at : List ℕ) (way : Dir) (place : List ℕ) (f g : FormTree) (σ : Substitution) : Type 0 where
  pub left : TermTree
  pub right : TermTree
  pub there : at_position at (formula f) ≡ Some (formula (form.Equal left right))
  pub old : TermTree
  pub old_there : at_position place (formula g) ≡ Some (term old)
  pub general : IsUnifierOfTerms table (looked_for way left right ∷ old ∷ []) σ

-- whatever equality and whatever term stand there, nothing makes the side and the term one
abbrev pub NoneUnifiesSide : SymbolTable → List ℕ → Dir → List ℕ → FormTree → FormTree → Type 0
NoneUnifiesSide table at way place f g =
    (left right old : TermTree) → at_position at (formula f) ≡ Some (formula (form.Equal left right)) → at_position place (formula g) ≡ Some (term old)
    → HasNoUnifier table (UnifiesTerms (looked_for way left right ∷ old ∷ []))

-- an equality of the formula stands there, and the term is the side of it that is put in
pub record PutsSide (at : List ℕ) (way : Dir) (f e : FormTree) (new : TermTree) : Type 0 where
  pub left : TermTree
  pub right : TermTree
  pub equal : e ≡ form.Equal left right
  pub there : at_position at (formula f) ≡ Some (formula e)
  pub side : new ≡ put_there way left right

-- the row that comes of two instances, where the equality is replaced in the first, and the new term is put into the second
abbrev pub row_replaced : FormTree → List ℕ → TermTree → RowTree → RowTree → List FormTree → RowTree
row_replaced e place new a b guards = row_joined e false a b (form_replaced_at place new b.form) guards b.out a.out

-- what the two rows give by this unifier of an equality's side and a term
abbrev pub side_figure : {table : SymbolTable} {at : List ℕ} {f g : FormTree} {σ : Substitution} → Option GuardRule → (way : Dir) (place : List ℕ) (first second : RowTree) → UnifiesSide table at way place f g σ → Figure
side_figure {table} {at} {f} {g} {σ} rule way place first second u = replaced rule σ (substituted_form σ (form.Equal u.left u.right)) place (substituted σ (put_there way u.left u.right)) first second

abbrev pub SideGives : SymbolTable → Option GuardRule → List ℕ → Dir → List ℕ → RowTree → RowTree → Substitution → Option RowTree → Type 0
SideGives table rule at way place first second σ o = (u : UnifiesSide table at way place first.form second.form σ) × FigureGives (side_figure rule way place first second u) o

-- The row that rows kept apart give. None only where there is a unifier by which they give nothing, or none at all.
abbrev pub ApartReplaces : SymbolTable → Option GuardRule → List ℕ → Dir → List ℕ → RowTree → RowTree → Option RowTree → Type 0
ApartReplaces table rule at way place first second (Some q) = (σ : Substitution) × SideGives table rule at way place first second σ (Some q)
ApartReplaces table rule at way place first second None = ((σ : Substitution) × SideGives table rule at way place first second σ None) ⊎ NoneUnifiesSide table at way place first.form second.form
