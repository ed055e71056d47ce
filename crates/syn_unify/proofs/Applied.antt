-- A substitution that is applied to a term: what comes of it, by the list of its bindings.
use Rattle.std.proofs.Common.{◌≡◌, ℕ, sym, ◌∙◌, ap, subst, arith, Bool, true, false, IsTrue, Option, None, Some}
use Rattle.std.specs.Option.{is_some}
use Rattle.syn_term.specs.Symbols.{SymbolTable}
use Rattle.syn_term.specs.Terms.{TermTree, bare, depth_of, nodes, sort_of}
use Rattle.syn_form.specs.Plain.{IsSorted}
use Rattle.syn_form.specs.Substitutions.{Substitution, KeepsSorts, image, substituted}
use Rattle.syn_form.proofs.Sorting.{sort_bare}
use Rattle.syn_unify.specs.Bindings.{IsWithin, most_depth, most_nodes}
use Rattle.syn_unify.specs.inner.Changes.{HoldsSorts, under}
use Rattle.syn_unify.specs.inner.Rooms.{HasRoom}
use Rattle.syn_unify.proofs.Rooms.{whole_depth, whole_nodes}
use Rattle.syn_unify.proofs.Sorts.{image_holds, image_under, sort_under, sorted_along}
use Rattle.syn_unify.proofs.Under.{bare_under, substituted_under}

-- there is room just where the tree isn't too large
pub within_of : (n d m e : ℕ) (o : Option ℕ) (b : Bool) → n ≡ m → d ≡ e → HasRoom most_nodes most_depth m e o → b ≡ is_some o → (IsTrue b → IsWithin n d) × (IsWithin n d → IsTrue b)
within_of n d m e None b is_n is_d h is = ((λ k. let q : true ≡ false = sym k ∙ is in absurd (cc)), (λ k. absurd (h (omega (arith, k.0), omega (arith, k.1)))))
within_of n d m e (Some left) b is_n is_d h is = ((λ k. (omega (arith, h.0), omega (arith, h.1))), (λ k. is))

module _ (σ ρ : Substitution) (same : ρ ≡ σ) (t : TermTree) where
  pub fits_from : (o : Option ℕ) (b : Bool) → HasRoom most_nodes most_depth (nodes (under (image ρ) t)) (depth_of (under (image ρ) t)) o → b ≡ is_some o → (IsTrue b → IsWithin (nodes (substituted σ t)) (depth_of (substituted σ t))) × (IsWithin (nodes (substituted σ t)) (depth_of (substituted σ t)) → IsTrue b)
  fits_from o b h is = within_of (nodes (substituted σ t)) (depth_of (substituted σ t)) (nodes (under (image ρ) t)) (depth_of (under (image ρ) t)) o b (whole_nodes σ t ∙ ap (λ (z : Substitution). nodes (under (image z) t)) (sym same)) (whole_depth σ t ∙ ap (λ (z : Substitution). depth_of (under (image z) t)) (sym same)) h is

  pub holds_from : (table : SymbolTable) → KeepsSorts table σ → HoldsSorts table (image ρ)
  holds_from table keeps = image_holds table ρ (subst (KeepsSorts table) (sym same) keeps)

  module _ (u : TermTree) (e : bare u ≡ under (image ρ) t) where
    pub tree_from : bare u ≡ bare (substituted σ t)
    tree_from = e ∙ (ap (λ (z : Substitution). under (image z) t) same ∙ sym (substituted_under σ t))

    pub sorted_from : (table : SymbolTable) → KeepsSorts table σ → IsSorted table t → IsSorted table u
    sorted_from table keeps h = sorted_along table u (under (image ρ) t) (e ∙ sym (bare_under (image ρ) t)) (image_under table ρ (subst (KeepsSorts table) (sym same) keeps) t h)

    pub sort_from : (table : SymbolTable) → KeepsSorts table σ → sort_of table u ≡ sort_of table t
    sort_from table keeps = sym (sort_bare table u) ∙ (ap (sort_of table) e ∙ sort_under table (image ρ) (holds_from table keeps) t)
