-- A substitution that is applied to a formula or an output: what comes of it, whether it fits, and that it stays formed.
use Rattle.std.proofs.Common.{◌≡◌, ℕ, List, [], ◌∷◌, ◌++◌, map, sym, ◌∙◌, ap, subst, refl, Bool, true, false, IsTrue, Option, Contains}
use Rattle.std.specs.List.{flat_map}
use Rattle.std.specs.Option.{is_some}
use Rattle.std.specs.Prelude.{◌⊎◌, if◌then◌else◌}
use Rattle.std.proofs.lemmas.List.Elements.{Contains-append_left, Contains-append_right}
use mathlib.Core.Logic.{inl, inr}
use Rattle.syn_term.specs.declared.sorts.Var.{Var}
use Rattle.syn_term.specs.Symbols.{IsSort, SymbolTable}
use Rattle.syn_term.specs.Terms.{TermTree, nowhere, variable_tree}
use Rattle.syn_form.specs.declared.trees.Out.TheVariants as out
use Rattle.syn_form.specs.declared.trees.Out.TheViews as out_view
use Rattle.syn_form.specs.Plain.{IsFormed, IsFormedOut, IsSorted, PlainOutNode, given_sort, given_sort_step}
use Rattle.syn_form.specs.Substitutions.{Substitution, KeepsSorts, image, same_var, substituted, substituted_form, substituted_out, substituted_out_step}
use Rattle.syn_form.specs.Trees.{FormTree, OutTree, bare_form, bare_out, form_depth, form_nodes, form_terms, form_vars, out_depth, out_nodes, out_terms, out_vars, term_vars}
use Rattle.syn_form.proofs.BareFacts.{formed_bare, formed_out_bare}
use Rattle.syn_form.proofs.BareVars.{form_vars_bare, out_vars_bare}
use Rattle.syn_form.proofs.Equations.{bare_out-Give, bare_out-If, fold-Give, fold-If}
use Rattle.syn_form.proofs.FormedForms.{term_formed}
use Rattle.syn_form.proofs.Inductions.{by_out_cases}
use Rattle.syn_form.proofs.Lists.{Contains-along, Contains-cons_cases, Contains-flat_map, Contains-flat_map_from, Contains-head, Contains-tail, none_in_nil}
use Rattle.syn_form.proofs.Nodes.{every-Give, every-If, node-If, parts-If}
use Rattle.syn_form.proofs.PutInputs.{on_terms-formed, on_terms-terms}
use Rattle.syn_unify.specs.Bindings.{IsWithin, bound_vars, most_depth, most_nodes}
use Rattle.syn_unify.specs.OutTerms.{out_on_terms_step}
use Rattle.syn_unify.specs.inner.Changes.{HoldsSorts, under}
use Rattle.syn_unify.specs.inner.Forms.{form_under, out_under}
use Rattle.syn_unify.specs.inner.Rooms.{HasRoom}
use Rattle.syn_unify.proofs.Applied.{within_of}
use Rattle.syn_unify.proofs.BareCounts.{form_depth_bare, form_nodes_bare, out_depth_bare, out_nodes_bare}
use Rattle.syn_unify.proofs.FormEnds.{substituted_form_under}
use Rattle.syn_unify.proofs.Sorts.{image_holds, image_sorted, sort_under, sorted_under}
use Rattle.syn_unify.proofs.TermsChanged.{out_on_terms-terms}
use Rattle.syn_unify.proofs.Under.{substituted_under, under_vars, vars_variable}

-- the output as the definitions give it
pub substituted_out_under : (σ : Substitution) (o : OutTree) → bare_out (substituted_out σ o) ≡ out_under (image σ) o
substituted_out_under σ = by_out_cases (λ o. bare_out (substituted_out σ o) ≡ out_under (image σ) o) record {
  at_give = λ t. ap bare_out (fold-Give (substituted_out_step σ) t) ∙ (bare_out-Give (substituted σ t) ∙ (ap (λ (z : TermTree). out.Give z) (substituted_under σ t) ∙ sym (fold-Give (out_on_terms_step (under (image σ))) t)));
  at_if = λ f u v h k.
      ap bare_out (fold-If (substituted_out_step σ) f u v) ∙ (bare_out-If (substituted_form σ f) (substituted_out σ u) (substituted_out σ v)
      ∙ (ap (λ (z : FormTree). out_view.If z (bare_out (substituted_out σ u)) (bare_out (substituted_out σ v))) (substituted_form_under σ f)
      ∙ (ap (λ (z : OutTree). out_view.If (form_under (image σ) f) z (bare_out (substituted_out σ v))) h
      ∙ (ap (λ (z : OutTree). out_view.If (form_under (image σ) f) (out_under (image σ) u) z) k ∙ sym (fold-If (out_on_terms_step (under (image σ))) f u v)))));
}

module _ (table : SymbolTable) (θ : Var → TermTree) (kept : HoldsSorts table θ) (sorted : (v : Var) → IsSort table v.sort → IsSorted table (θ v)) where
  -- what comes of formed trees is formed
  pub formed_under : (f : FormTree) → IsFormed table f → IsFormed table (form_under θ f)
  formed_under = on_terms-formed table (under θ) (sort_under table θ kept) (sorted_under table θ kept sorted)

  given_under : (o : OutTree) → given_sort table (out_under θ o) ≡ given_sort table o
  given_under = by_out_cases (λ o. given_sort table (out_under θ o) ≡ given_sort table o) record {
    at_give = λ t. ap (given_sort table) (fold-Give (out_on_terms_step (under θ)) t) ∙ (fold-Give (given_sort_step table) (under θ t) ∙ (sort_under table θ kept t ∙ sym (fold-Give (given_sort_step table) t)));
    at_if = λ f u v h k. ap (given_sort table) (fold-If (out_on_terms_step (under θ)) f u v) ∙ (fold-If (given_sort_step table) (form_under θ f) (out_under θ u) (out_under θ v) ∙ (h ∙ sym (fold-If (given_sort_step table) f u v)));
  }

  pub formed_out_under : (o : OutTree) → IsFormedOut table o → IsFormedOut table (out_under θ o)
  formed_out_under = by_out_cases (λ o. IsFormedOut table o → IsFormedOut table (out_under θ o)) record {
    at_give = λ t h. subst (IsFormedOut table) (sym (fold-Give (out_on_terms_step (under θ)) t)) (every-Give (PlainOutNode table) (under θ t) (sorted_under table θ kept sorted t ((term_formed table (out.Give t) t refl).0 h)));
    at_if = λ f u v h k l.
        let n = node-If (PlainOutNode table) f u v l in
        let p = parts-If (PlainOutNode table) f u v l in
        subst (IsFormedOut table) (sym (fold-If (out_on_terms_step (under θ)) f u v))
        (every-If (PlainOutNode table) (form_under θ f) (out_under θ u) (out_under θ v) (formed_under f n.0, given_under u ∙ (n.1 ∙ sym (given_under v))) (h p.0) (k p.1));
  }

-- the variables of what comes of a tree are its own, or such as the substitution brings
image_vars : (σ : Substitution) (v w : Var) → Contains (term_vars (image σ v)) w → (v ≡ w) ⊎ Contains (bound_vars σ) w
image_vars [] v w c = only (Contains-cons_cases v [] w (Contains-along (term_vars (variable_tree v)) (v ∷ []) w (vars_variable nowhere v) c))
  where
    only : (v ≡ w) ⊎ Contains [] w → (v ≡ w) ⊎ Contains (bound_vars []) w
    only (inl e) = inl e
    only (inr d) = absurd (none_in_nil w d)
image_vars (b ∷ bs) v w c = go (same_var b.var v) c (image_vars bs v w)
  where
    later : (v ≡ w) ⊎ Contains (bound_vars bs) w → (v ≡ w) ⊎ Contains (bound_vars (b ∷ bs)) w
    later (inl e) = inl e
    later (inr d) = inr (Contains-append_right (term_vars b.term) (bound_vars bs) w d)

    go : (t : Bool) → Contains (term_vars (if t then b.term else image bs v)) w → (Contains (term_vars (image bs v)) w → (v ≡ w) ⊎ Contains (bound_vars bs) w) → (v ≡ w) ⊎ Contains (bound_vars (b ∷ bs)) w
    go true d k = inr (Contains-append_left (term_vars b.term) (bound_vars bs) w d)
    go false d k = later (k d)

terms_come : (σ : Substitution) (ts : List TermTree) (w : Var) → Contains (flat_map term_vars (map (under (image σ)) ts)) w → Contains (flat_map term_vars ts ++ bound_vars σ) w
terms_come σ ts w c = go (image_vars σ from.0 w from.2)
  where
    made : (u : TermTree) × Contains (map (under (image σ)) ts) u × Contains (term_vars u) w
    made = Contains-flat_map term_vars (map (under (image σ)) ts) w c

    one_of : (xs : List TermTree) (u : TermTree) → Contains (map (under (image σ)) xs) u → (t : TermTree) × Contains xs t × (under (image σ) t ≡ u)
    one_of [] u d = absurd (none_in_nil u d)
    one_of (x ∷ xs) u d = first (Contains-cons_cases (under (image σ) x) (map (under (image σ)) xs) u d) (one_of xs u)
      where
        first : (under (image σ) x ≡ u) ⊎ Contains (map (under (image σ)) xs) u → (Contains (map (under (image σ)) xs) u → (t : TermTree) × Contains xs t × (under (image σ) t ≡ u)) → (t : TermTree) × Contains (x ∷ xs) t × (under (image σ) t ≡ u)
        first (inl e) k = (x, Contains-head x xs, e)
        first (inr d) k = let p = k d in (p.0, Contains-tail x xs p.0 p.1, p.2)

    source : (t : TermTree) × Contains ts t × (under (image σ) t ≡ made.0)
    source = one_of ts made.0 made.1

    from : (v : Var) × Contains (term_vars source.0) v × Contains (term_vars (image σ v)) w
    from = under_vars (image σ) w source.0 (subst (λ (z : TermTree). Contains (term_vars z) w) (sym source.2) made.2)

    go : (from.0 ≡ w) ⊎ Contains (bound_vars σ) w → Contains (flat_map term_vars ts ++ bound_vars σ) w
    go (inl e) = Contains-append_left (flat_map term_vars ts) (bound_vars σ) w (Contains-flat_map_from term_vars ts source.0 w source.1 (subst (Contains (term_vars source.0)) e from.1))
    go (inr d) = Contains-append_right (flat_map term_vars ts) (bound_vars σ) w d

module _ (σ ρ : Substitution) (same : ρ ≡ σ) where
  pub bound_holds_from : (table : SymbolTable) → KeepsSorts table σ → HoldsSorts table (image ρ)
  bound_holds_from table keeps = image_holds table ρ (subst (KeepsSorts table) (sym same) keeps)

  module _ (f : FormTree) where
    here : form_under (image ρ) f ≡ bare_form (substituted_form σ f)
    here = ap (λ (z : Substitution). form_under (image z) f) same ∙ sym (substituted_form_under σ f)

    pub form_fits_from : (o : Option ℕ) (b : Bool) → HasRoom most_nodes most_depth (form_nodes (form_under (image ρ) f)) (form_depth (form_under (image ρ) f)) o → b ≡ is_some o → (IsTrue b → IsWithin (form_nodes (substituted_form σ f)) (form_depth (substituted_form σ f))) × (IsWithin (form_nodes (substituted_form σ f)) (form_depth (substituted_form σ f)) → IsTrue b)
    form_fits_from o b h is =
        within_of (form_nodes (substituted_form σ f)) (form_depth (substituted_form σ f)) (form_nodes (form_under (image ρ) f)) (form_depth (form_under (image ρ) f)) o b
        (sym (form_nodes_bare (substituted_form σ f)) ∙ ap form_nodes (sym here)) (sym (form_depth_bare (substituted_form σ f)) ∙ ap form_depth (sym here)) h is

    module _ (g : FormTree) (e : bare_form g ≡ form_under (image ρ) f) where
      pub form_tree_from : bare_form g ≡ bare_form (substituted_form σ f)
      form_tree_from = e ∙ here

      pub form_formed_from : (table : SymbolTable) → KeepsSorts table σ → IsFormed table f → IsFormed table g
      form_formed_from table keeps h =
          let k : KeepsSorts table ρ = subst (KeepsSorts table) (sym same) keeps in
          (formed_bare table g).0 (subst (IsFormed table) (sym e) (formed_under table (image ρ) (image_holds table ρ k) (image_sorted table ρ k) f h))

    pub form_vars_from : (g : FormTree) → bare_form g ≡ form_under (image ρ) f → (w : Var) → Contains (form_vars g) w → Contains (form_vars f ++ bound_vars σ) w
    form_vars_from g e w c =
        terms_come σ (form_terms f) w
        (Contains-along (form_vars g) (flat_map term_vars (map (under (image σ)) (form_terms f))) w
        (sym (form_vars_bare g) ∙ (ap form_vars (e ∙ ap (λ (z : Substitution). form_under (image z) f) same) ∙ ap (flat_map term_vars) (on_terms-terms (under (image σ)) f))) c)

  module _ (o : OutTree) where
    there : out_under (image ρ) o ≡ bare_out (substituted_out σ o)
    there = ap (λ (z : Substitution). out_under (image z) o) same ∙ sym (substituted_out_under σ o)

    pub out_fits_from : (left : Option ℕ) (b : Bool) → HasRoom most_nodes most_depth (out_nodes (out_under (image ρ) o)) (out_depth (out_under (image ρ) o)) left → b ≡ is_some left → (IsTrue b → IsWithin (out_nodes (substituted_out σ o)) (out_depth (substituted_out σ o))) × (IsWithin (out_nodes (substituted_out σ o)) (out_depth (substituted_out σ o)) → IsTrue b)
    out_fits_from left b h is =
        within_of (out_nodes (substituted_out σ o)) (out_depth (substituted_out σ o)) (out_nodes (out_under (image ρ) o)) (out_depth (out_under (image ρ) o)) left b
        (sym (out_nodes_bare (substituted_out σ o)) ∙ ap out_nodes (sym there)) (sym (out_depth_bare (substituted_out σ o)) ∙ ap out_depth (sym there)) h is

    module _ (p : OutTree) (e : bare_out p ≡ out_under (image ρ) o) where
      pub out_tree_from : bare_out p ≡ bare_out (substituted_out σ o)
      out_tree_from = e ∙ there

      pub out_formed_from : (table : SymbolTable) → KeepsSorts table σ → IsFormedOut table o → IsFormedOut table p
      out_formed_from table keeps h =
          let k : KeepsSorts table ρ = subst (KeepsSorts table) (sym same) keeps in
          (formed_out_bare table p).0 (subst (IsFormedOut table) (sym e) (formed_out_under table (image ρ) (image_holds table ρ k) (image_sorted table ρ k) o h))

    pub out_vars_from : (p : OutTree) → bare_out p ≡ out_under (image ρ) o → (w : Var) → Contains (out_vars p) w → Contains (out_vars o ++ bound_vars σ) w
    out_vars_from p e w c =
        terms_come σ (out_terms o) w
        (Contains-along (out_vars p) (flat_map term_vars (map (under (image σ)) (out_terms o))) w
        (sym (out_vars_bare p) ∙ (ap out_vars (e ∙ ap (λ (z : Substitution). out_under (image z) o) same) ∙ ap (flat_map term_vars) (out_on_terms-terms (under (image σ)) o))) c)
