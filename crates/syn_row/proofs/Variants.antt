-- To be variants is an equivalence, and rows that are one are variants.
use Rattle.std.proofs.Common.{◌≡◌, List, [], map, get_or, refl, sym, ◌∙◌, subst}
use Rattle.syn_term.specs.declared.sorts.Var.{Var}
use Rattle.syn_term.specs.Terms.{bare}
use Rattle.syn_form.specs.Substitutions.{Substitution, substituted, substituted_form, substituted_out}
use Rattle.syn_form.specs.Trees.{bare_form, bare_out}
use Rattle.syn_row.specs.Rows.{AreVariants, IsRenaming, RowTree, bare_row, row_terms, row_vars, substituted_row}
use Rattle.syn_row.specs.RowLaws.{VariantLaws}
use Rattle.syn_row.proofs.Changes.{changes_after, changes_alike, changes_bare, changes_substituted, out_changes_after, out_changes_alike, out_changes_bare, out_changes_substituted}
use Rattle.syn_row.proofs.Numbers.{bare-variable}
use Rattle.syn_row.proofs.Renaming.{back_by, back_renames, both_by, both_rename, substituted-blind, substituted-none, substituted_back, substituted_both}
use Rattle.syn_row.proofs.RowChanges.{row_vars-along, row_vars-renamed, row_within, rows_along, rows_same, rows_substituted, rows_after}

none_renames : (vars : List Var) → IsRenaming vars []
none_renames vars = record { to = λ v. v; is = λ v c. bare-variable v; sorts = λ v c. refl; one = λ v w c d e. e }

-- the row with no variable replaced
pub row-none : (r : RowTree) → bare_row (substituted_row [] r) ≡ bare_row r
row-none r =
    rows_after (substituted_form []) bare_form (substituted_out []) bare_out r
    ∙ rows_same (λ f. bare_form (substituted_form [] f)) bare_form (λ o. bare_out (substituted_out [] o)) bare_out r
    (changes_alike (λ f. bare_form (substituted_form [] f)) bare_form (λ t. bare (substituted [] t)) bare (changes_after (substituted_form []) bare_form (substituted []) bare (changes_substituted []) changes_bare) changes_bare substituted-none r.form)
    (λ p e. out_changes_alike (λ f. bare_form (substituted_form [] f)) bare_form (λ t. bare (substituted [] t)) bare (changes_after (substituted_form []) bare_form (substituted []) bare (changes_substituted []) changes_bare) changes_bare
    (λ o. bare_out (substituted_out [] o)) bare_out (out_changes_after (substituted_out []) bare_out (substituted_form []) bare_form (substituted []) bare (out_changes_substituted []) out_changes_bare) out_changes_bare substituted-none p)

-- rows that are one are variants
pub variants-one : (r s : RowTree) → bare_row r ≡ bare_row s → AreVariants r s
variants-one r s e = record { renaming = []; renames = none_renames (row_vars r); is = row-none r ∙ e }

-- rows that are one stay one under a substitution
pub substituted-along : (σ : Substitution) (r s : RowTree) → bare_row r ≡ bare_row s → bare_row (substituted_row σ r) ≡ bare_row (substituted_row σ s)
substituted-along σ = rows_along (substituted_form σ) (substituted σ) (changes_substituted σ) (substituted_out σ) (out_changes_substituted σ) (substituted-blind σ)

-- the variables of a variant
pub variant_vars : (r s : RowTree) (h : AreVariants r s) → row_vars s ≡ map h.renames.to (row_vars r)
variant_vars r s h = row_vars-along s (substituted_row h.renaming r) (sym h.is) ∙ row_vars-renamed h.renaming r h.renames

pub variants_back : (r s : RowTree) → AreVariants r s → AreVariants s r
variants_back r s h =
    let σ = h.renaming in
    let n = h.renames in
    record {
      renaming = back_by σ (row_vars r) n;
      renames = subst (λ (z : List Var). IsRenaming z (back_by σ (row_vars r) n)) (sym (variant_vars r s h)) (back_renames σ (row_vars r) n);
      is =
          substituted-along (back_by σ (row_vars r) n) s (substituted_row σ r) (sym h.is)
          ∙ (rows_substituted σ (back_by σ (row_vars r) n) [] r
          (λ k d lt. substituted_back σ (row_vars r) n (get_or (row_terms r) k d) (row_within r k d lt) ∙ sym (substituted-none (get_or (row_terms r) k d)))
          ∙ row-none r);
    }

pub variants_along : (r s t : RowTree) → AreVariants r s → AreVariants s t → AreVariants r t
variants_along r s t h k =
    let σ = h.renaming in
    let τ = k.renaming in
    let n : IsRenaming (map h.renames.to (row_vars r)) τ = subst (λ (z : List Var). IsRenaming z τ) (variant_vars r s h) k.renames in
    record {
      renaming = both_by σ (row_vars r) h.renames τ n;
      renames = both_rename σ (row_vars r) h.renames τ n;
      is =
          sym (rows_substituted σ τ (both_by σ (row_vars r) h.renames τ n) r (λ i d lt. substituted_both σ (row_vars r) h.renames τ n (get_or (row_terms r) i d) (row_within r i d lt)))
          ∙ (substituted-along τ (substituted_row σ r) s h.is ∙ k.is);
    }

pub variant_laws : VariantLaws
variant_laws = record {
  itself = λ r. variants-one r r refl;
  one = variants-one;
  back = variants_back;
  along = variants_along;
}
