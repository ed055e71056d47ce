-- Simplification doesn't look at places.
use Rattle.std.proofs.Common.{◌≡◌, Bool, true, false, if◌then◌else◌, refl, sym, ◌∙◌, ap}
use Rattle.syn_term.specs.Terms.{TermTree, bare, bare_step}
use Rattle.syn_term.specs.Same.{same_tree}
use Rattle.syn_term.proofs.Same.{same_tree-to, same_tree-from}
use Rattle.syn_term.proofs.Trees.{fold-bare}
use Rattle.syn_app.specs.declared.trees.Form.TheVariants as form
use Rattle.syn_app.specs.Trees.{FormTree}
use Rattle.syn_app.specs.declared.flat.Row.{Row}
use Rattle.syn_app.specs.Rows.{simplified_form, simplified_row, bare_form, bare_row}

-- an equality of a term with itself
pub simplified-same : (f : FormTree) (s t : TermTree) → f ≡ form.Equal s t → bare s ≡ bare t → form.True ≡ simplified_form f
simplified-same f s t is e = sym (ap simplified_form is ∙ ap (λ (b : Bool). if b then form.True else form.Equal s t) (same_tree-from s t e))

tested : (s t : TermTree) (b : Bool) → same_tree s t ≡ b → (bare s ≡ bare t → ⊥) → b ≡ false
tested s t true e ne = absurd (ne (same_tree-to s t e))
tested s t false e ne = refl

-- an equality of two different terms
pub simplified-other : (f : FormTree) (s t : TermTree) → f ≡ form.Equal s t → (bare s ≡ bare t → ⊥) → form.Equal s t ≡ simplified_form f
simplified-other f s t is ne = sym (ap simplified_form is ∙ ap (λ (b : Bool). if b then form.True else form.Equal s t) (tested s t (same_tree s t) refl ne))

-- a tree without places has none
pub bare-bare : (t : TermTree) → bare (bare t) ≡ bare t
bare-bare = fold-bare bare_step (λ p v. refl) (λ p f xs. refl)

same-bare : (s t : TermTree) (b c : Bool) → same_tree s t ≡ b → same_tree (bare s) (bare t) ≡ c → b ≡ c
same-bare s t true true e h = refl
same-bare s t true false e h = let k = same_tree-from (bare s) (bare t) (bare-bare s ∙ (same_tree-to s t e ∙ sym (bare-bare t))) in absurd (cc)
same-bare s t false true e h = let k = same_tree-from s t (sym (bare-bare s) ∙ (same_tree-to (bare s) (bare t) h ∙ bare-bare t)) in absurd (cc)
same-bare s t false false e h = refl

choice-bare : (s t : TermTree) (b : Bool) → bare_form (if b then form.True else form.Equal s t) ≡ (if b then form.True else form.Equal (bare s) (bare t))
choice-bare s t true = refl
choice-bare s t false = refl

pub bare-simplified : (f : FormTree) → bare_form (simplified_form f) ≡ simplified_form (bare_form f)
bare-simplified form.True = refl
bare-simplified (form.Equal s t) =
    choice-bare s t (same_tree s t) ∙ ap (λ (b : Bool). if b then form.True else form.Equal (bare s) (bare t)) (same-bare s t (same_tree s t) (same_tree (bare s) (bare t)) refl refl)

pub bare_row-simplified : (row : Row) → bare_row (simplified_row row) ≡ simplified_row (bare_row row)
bare_row-simplified row = let e = bare-simplified row.form in cc
