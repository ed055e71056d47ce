-- The laws of canonical rows.
use Rattle.std.proofs.Common.{◌≡◌, ◌↔◌, ℕ, List, [], All, Contains, map, get_or, refl, sym, ◌∙◌, ap}
use Rattle.std.specs.Option.{option_map_or}
use Rattle.syn_term.specs.declared.sorts.Var.{Var}
use Rattle.syn_term.specs.Terms.{TermTree, bare, variable_tree}
use Rattle.syn_term.specs.Same.{same_tree}
use Rattle.syn_form.specs.Same.{same_form, same_out}
use Rattle.syn_form.specs.Simplification.{simplified_form, simplified_out}
use Rattle.syn_form.specs.Substitutions.{Substitution, image, substituted, substituted_form, substituted_out}
use Rattle.syn_form.specs.Trees.{FormTree, OutTree, bare_form, bare_out, form_terms, out_terms}
use Rattle.syn_form.proofs.Owned.{All-left}
use Rattle.syn_form.proofs.SimplifiedTwice.{simplified_form-twice, simplified_out-twice}
use Rattle.syn_row.specs.Rows.{AreVariants, IsRenaming, IsSimplified, RowTree, bare_row, canonical_row, first_occurrences, numbered_from, numbering, renumbered_row, row_terms, row_vars, simplified_row, substituted_row}
use Rattle.syn_row.proofs.Changes.{changes_bare, changes_none, changes_substituted, out_changes_bare, out_changes_none, out_changes_substituted}
use Rattle.syn_row.proofs.Commuting.{simplified_changed, simplified_out_changed}
use Rattle.syn_row.proofs.Numbers.{bare-variable, image_numbered, numbered, one_number, sort_numbered}
use Rattle.syn_row.proofs.Occurring.{numbered_renamed, occurrences_renamed, occurs, occurs_first}
use Rattle.syn_row.proofs.Renaming.{Within, back_by, substituted-blind, substituted_after, substituted_back}
use Rattle.syn_row.proofs.RowChanges.{own_out, row_within, rows_after, rows_both, rows_same, rows_substituted}
use Rattle.syn_row.proofs.Telling.{bare-twice, forms_told, outs_told, trees_told}
use Rattle.syn_row.proofs.Variants.{substituted-along, variant_vars, variants-one, variants_along, variants_back}

abbrev Any : TermTree → Type 0
Any t = Unit {0}

-- what gives the variables of a row the numbers from n on, in the order in which they first occur
abbrev pub numbering_from : ℕ → RowTree → Substitution
numbering_from n r = numbered_from n (first_occurrences (row_vars r))

-- it renames them
unfoldable pub numbers_rename : (n : ℕ) (r : RowTree) → IsRenaming (row_vars r) (numbering_from n r)
numbers_rename n r = record {
  to = numbered n (first_occurrences (row_vars r));
  is = λ v c. ap bare (image_numbered n (first_occurrences (row_vars r)) v) ∙ bare-variable (numbered n (first_occurrences (row_vars r)) v);
  sorts = λ v c. sort_numbered n (first_occurrences (row_vars r)) v;
  one = λ v w c d e. one_number n (first_occurrences (row_vars r)) v w (occurs_first (row_vars r) v c) (occurs_first (row_vars r) w d) (ap (λ (z : Var). z.number) e);
}

pub numbering_renames : (r : RowTree) → IsRenaming (row_vars r) (numbering r)
numbering_renames r = numbers_rename 1 r

-- so a row and the row renumbered are variants
pub variants_renumbered : (r : RowTree) → AreVariants r (renumbered_row r)
variants_renumbered r = record { renaming = numbering r; renames = numbering_renames r; is = refl }

-- variants are renumbered to one row
pub renumbered_along : (r s : RowTree) → AreVariants r s → bare_row (renumbered_row r) ≡ bare_row (renumbered_row s)
renumbered_along r s h =
    let vars = row_vars r in
    let n = h.renames in
    let us = first_occurrences vars in
    let to_first : first_occurrences (row_vars s) ≡ map n.to us = ap first_occurrences (variant_vars r s h) ∙ occurrences_renamed n.to vars n.one vars (λ w c. c) in
    let same : (v : Var) → Contains vars v → bare (image (numbering s) (n.to v)) ≡ bare (image (numbering r) v) = λ v c.
    ap (λ (z : List Var). bare (image (numbered_from 1 z) (n.to v))) to_first
    ∙ (ap bare (image_numbered 1 (map n.to us) (n.to v))
    ∙ (ap (λ (z : Var). bare (variable_tree z)) (numbered_renamed n.to vars n.one n.sorts 1 us v (λ w d. occurs vars w d) (occurs_first vars v c))
    ∙ sym (ap bare (image_numbered 1 us v)))) in
    sym (substituted-along (numbering s) s (substituted_row h.renaming r) (sym h.is)
    ∙ rows_substituted h.renaming (numbering s) (numbering r) r (λ k d lt. substituted_after h.renaming vars n (numbering s) (numbering r) same (get_or (row_terms r) k d) (row_within r k d lt)))

-- simplified once more, a row stays as it is
pub simplified_row-twice : (r : RowTree) → simplified_row (simplified_row r) ≡ simplified_row r
simplified_row-twice r =
    rows_after simplified_form simplified_form simplified_out simplified_out r
    ∙ rows_same (λ f. simplified_form (simplified_form f)) simplified_form (λ o. simplified_out (simplified_out o)) simplified_out r (simplified_form-twice r.form) (λ p e. simplified_out-twice p)

-- a row simplified once its variables are renamed, or renamed once it is simplified
pub simplified_row-renamed : (σ : Substitution) (vars : List Var) (n : IsRenaming vars σ) (r : RowTree) → All (Within vars) (row_terms r) → simplified_row (substituted_row σ r) ≡ substituted_row σ (simplified_row r)
simplified_row-renamed σ vars n r within =
    let τ = back_by σ vars n in
    rows_both (substituted_form σ) simplified_form simplified_form (substituted_form σ) (substituted_out σ) simplified_out simplified_out (substituted_out σ) r
    (simplified_changed (substituted_form σ) (substituted σ) (changes_substituted σ) (Within vars)
    (trees_told (substituted_form σ) (substituted_form τ) (substituted σ) (substituted τ) (changes_substituted σ) (changes_substituted τ) (substituted-blind σ) (substituted-blind τ) (Within vars) (substituted_back σ vars n))
    (forms_told (substituted_form σ) (substituted_form τ) (substituted σ) (substituted τ) (changes_substituted σ) (changes_substituted τ) (substituted-blind σ) (substituted-blind τ) (Within vars) (substituted_back σ vars n))
    r.form (All-left (Within vars) (form_terms r.form) (option_map_or out_terms r.out []) within))
    (λ p e. simplified_out_changed (substituted_form σ) (substituted σ) (changes_substituted σ) (Within vars)
    (trees_told (substituted_form σ) (substituted_form τ) (substituted σ) (substituted τ) (changes_substituted σ) (changes_substituted τ) (substituted-blind σ) (substituted-blind τ) (Within vars) (substituted_back σ vars n))
    (forms_told (substituted_form σ) (substituted_form τ) (substituted σ) (substituted τ) (changes_substituted σ) (changes_substituted τ) (substituted-blind σ) (substituted-blind τ) (Within vars) (substituted_back σ vars n))
    (substituted_out σ) (out_changes_substituted σ)
    (outs_told (substituted_form σ) (substituted_form τ) (substituted σ) (substituted τ) (changes_substituted σ) (changes_substituted τ) (substituted-blind σ) (substituted-blind τ) (Within vars) (substituted_back σ vars n) (substituted_out σ) (substituted_out τ) (out_changes_substituted σ) (out_changes_substituted τ))
    p (own_out (Within vars) (form_terms r.form) r.out p e within))

-- simplification doesn't look at places
pub simplified_row-bare : (r : RowTree) → simplified_row (bare_row r) ≡ bare_row (simplified_row r)
simplified_row-bare r =
    rows_both bare_form simplified_form simplified_form bare_form bare_out simplified_out simplified_out bare_out r
    (simplified_changed bare_form bare changes_bare Any trees forms r.form (λ k d lt. tt))
    (λ p e. simplified_out_changed bare_form bare changes_bare Any trees forms bare_out out_changes_bare outs p (λ k d lt. tt))
  where
    trees : (s t : TermTree) → Any s → Any t → same_tree (bare s) (bare t) ≡ same_tree s t
    trees = trees_told bare_form (λ f. f) bare (λ t. t) changes_bare changes_none (λ t. ap bare (bare-twice t)) bare-twice Any (λ t h. bare-twice t)

    forms : (f h : FormTree) → All Any (form_terms f) → All Any (form_terms h) → same_form (bare_form f) (bare_form h) ≡ same_form f h
    forms = forms_told bare_form (λ f. f) bare (λ t. t) changes_bare changes_none (λ t. ap bare (bare-twice t)) bare-twice Any (λ t h. bare-twice t)

    outs : (o p : OutTree) → All Any (out_terms o) → All Any (out_terms p) → same_out (bare_out o) (bare_out p) ≡ same_out o p
    outs = outs_told bare_form (λ f. f) bare (λ t. t) changes_bare changes_none (λ t. ap bare (bare-twice t)) bare-twice Any (λ t h. bare-twice t) bare_out (λ o. o) out_changes_bare out_changes_none

-- so a row that is one with a simplified row is simplified
pub simplified-along : (r s : RowTree) → bare_row r ≡ bare_row s → IsSimplified s → IsSimplified r
simplified-along r s e h = sym (simplified_row-bare r) ∙ (ap simplified_row e ∙ (simplified_row-bare s ∙ (h ∙ sym e)))

-- a canonical row is simplified
pub canonical_simplified : (r : RowTree) → simplified_row (canonical_row r) ≡ canonical_row r
canonical_simplified r =
    let s = simplified_row r in
    simplified_row-renamed (numbering s) (row_vars s) (numbering_renames s) s (row_within s)
    ∙ ap (substituted_row (numbering s)) (simplified_row-twice r)

pub canonical_again : (r : RowTree) → bare_row (canonical_row (canonical_row r)) ≡ bare_row (canonical_row r)
canonical_again r =
    ap (λ (z : RowTree). bare_row (renumbered_row z)) (canonical_simplified r)
    ∙ sym (renumbered_along (simplified_row r) (canonical_row r) (variants_renumbered (simplified_row r)))

-- where simplification leaves a row as it is, the canonical row is the row renumbered
canonical_is : (r : RowTree) → IsSimplified r → bare_row (canonical_row r) ≡ bare_row (renumbered_row r)
canonical_is r h = renumbered_along (simplified_row r) r (variants-one (simplified_row r) r h)

pub canonical_decides : (r s : RowTree) → IsSimplified r → IsSimplified s → AreVariants r s ↔ (bare_row (canonical_row r) ≡ bare_row (canonical_row s))
canonical_decides r s h k = (
  (λ v. canonical_is r h ∙ (renumbered_along r s v ∙ sym (canonical_is s k))),
  (λ e.
      let same : bare_row (renumbered_row r) ≡ bare_row (renumbered_row s) = sym (canonical_is r h) ∙ (e ∙ canonical_is s k) in
      variants_along r (renumbered_row r) s (variants_renumbered r)
      (variants_along (renumbered_row r) (renumbered_row s) s (variants-one (renumbered_row r) (renumbered_row s) same) (variants_back s (renumbered_row s) (variants_renumbered s)))),
)
