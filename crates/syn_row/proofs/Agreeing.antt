-- Two substitutions, one after another, that do to each variable what two others do, do so to terms, formulas, outputs and rows.
use Rattle.std.proofs.Common.{◌≡◌, List, [], ◌∷◌, All, Contains, map, get_or, sym, ◌∙◌, ap}
use Rattle.std.specs.List.{flat_map}
use Rattle.std.proofs.lemmas.List.Elements.{Contains-get_or}
use Rattle.syn_term.specs.declared.sorts.SymId.{SymId}
use Rattle.syn_term.specs.declared.sorts.Var.{Var}
use Rattle.syn_term.specs.declared.term.Place.{Place}
use Rattle.syn_term.specs.declared.term.Node.TheVariants as node
use Rattle.syn_term.specs.declared.term.Node.TheViews as view
use Rattle.syn_term.specs.Terms.{TermTree, application, bare, bare_step, nowhere}
use Rattle.syn_term.proofs.Trees.{fold-App, fold-Var}
use Rattle.syn_form.specs.Substitutions.{Substitution, image, substituted, substituted_form, substituted_out}
use Rattle.syn_form.specs.Trees.{FormTree, OutTree, bare_form, bare_out, form_terms, form_vars, out_terms, out_vars, term_vars, term_vars_step}
use Rattle.syn_form.proofs.Lists.{Contains-along, Contains-flat_map_from, Contains-head, all_of-map}
use Rattle.syn_form.proofs.TermNodes.{by_term_cases}
use Rattle.syn_row.proofs.Changes.{Changes, OutChanges, changes_after, changes_bare, changes_same, changes_substituted, map_after, map_same, out_changes_after, out_changes_bare, out_changes_same, out_changes_substituted}
use Rattle.syn_row.proofs.Renaming.{Within, substituted-App, substituted-Var, substituted-none}

-- all variables of the first list are in the second
abbrev pub AreAmong : List Var → List Var → Type 0
AreAmong vs vars = (v : Var) → Contains vs v → Contains vars v

-- the variables of a symbol with arguments
pub vars-App : (p : Place) (f : SymId) (args : List TermTree) → term_vars (view.App p f args) ≡ flat_map term_vars args
vars-App p f args = fold-App term_vars_step p f args ∙ all_of-map term_vars args

pub vars-Var : (p : Place) (v : Var) → term_vars (node.Var p v) ≡ v ∷ []
vars-Var p v = fold-Var term_vars_step p v

-- each term of a list whose variables are among these
pub within_each : (vars : List Var) (ts : List TermTree) → AreAmong (flat_map term_vars ts) vars → All (Within vars) ts
within_each vars ts h k d lt v c = h v (Contains-flat_map_from term_vars ts (get_or ts k d) v (Contains-get_or ts k d lt) c)

pub within_args : (vars : List Var) (p : Place) (f : SymId) (args : List TermTree) → Within vars (view.App p f args) → All (Within vars) args
within_args vars p f args h = within_each vars args (λ v c. h v (Contains-along (flat_map term_vars args) (term_vars (view.App p f args)) v (sym (vars-App p f args)) c))

pub within_var : (vars : List Var) (p : Place) (v : Var) → Within vars (node.Var p v) → Contains vars v
within_var vars p v h = h v (Contains-along (v ∷ []) (term_vars (node.Var p v)) v (sym (vars-Var p v)) (Contains-head v []))

-- two substitutions at a symbol with arguments
pub twice-App : (σ τ : Substitution) (p : Place) (f : SymId) (args : List TermTree) → bare (substituted τ (substituted σ (view.App p f args))) ≡ application f (map (λ t. bare (substituted τ (substituted σ t))) args)
twice-App σ τ p f args =
    ap (λ (z : TermTree). bare (substituted τ z)) (substituted-App σ p f args)
    ∙ (ap bare (substituted-App τ nowhere f (map (substituted σ) args))
    ∙ (fold-App bare_step nowhere f (map (substituted τ) (map (substituted σ) args))
    ∙ ap (application f) (ap (map bare) (map_after (substituted σ) (substituted τ) args) ∙ map_after (λ t. substituted τ (substituted σ t)) bare args)))

pub twice-Var : (σ τ : Substitution) (p : Place) (v : Var) → bare (substituted τ (substituted σ (node.Var p v))) ≡ bare (substituted τ (image σ v))
twice-Var σ τ p v = ap (λ (z : TermTree). bare (substituted τ z)) (substituted-Var σ p v)

module _ (σ τ κ ρ : Substitution) (vars : List Var) (same : (v : Var) → Contains vars v → bare (substituted τ (image σ v)) ≡ bare (substituted ρ (image κ v))) where
  pub terms_agree : (t : TermTree) → Within vars t → bare (substituted τ (substituted σ t)) ≡ bare (substituted ρ (substituted κ t))
  terms_agree = by_term_cases (λ t. Within vars t → bare (substituted τ (substituted σ t)) ≡ bare (substituted ρ (substituted κ t)))
      (λ p v h. twice-Var σ τ p v ∙ (same v (within_var vars p v h) ∙ sym (twice-Var κ ρ p v)))
      (λ p f args held h.
      let parts = within_args vars p f args h in
      twice-App σ τ p f args
      ∙ (ap (application f) (map_same (λ t. bare (substituted τ (substituted σ t))) (λ t. bare (substituted ρ (substituted κ t))) args (λ k d lt. held k d lt (parts k d lt)))
      ∙ sym (twice-App κ ρ p f args)))

  all_agree : (ts : List TermTree) → AreAmong (flat_map term_vars ts) vars → All (λ t. bare (substituted τ (substituted σ t)) ≡ bare (substituted ρ (substituted κ t))) ts
  all_agree ts h k d lt = terms_agree (get_or ts k d) (within_each vars ts h k d lt)

  pub forms_agree : (f : FormTree) → AreAmong (form_vars f) vars → bare_form (substituted_form τ (substituted_form σ f)) ≡ bare_form (substituted_form ρ (substituted_form κ f))
  forms_agree f h =
      changes_same (λ f. bare_form (substituted_form τ (substituted_form σ f))) (λ f. bare_form (substituted_form ρ (substituted_form κ f))) (λ t. bare (substituted τ (substituted σ t))) (λ t. bare (substituted ρ (substituted κ t))) (twice σ τ) (twice κ ρ) f
      (all_agree (form_terms f) h)
    where
      twice : (σ τ : Substitution) → Changes (λ f. bare_form (substituted_form τ (substituted_form σ f))) (λ t. bare (substituted τ (substituted σ t)))
      twice σ τ = changes_after (λ f. substituted_form τ (substituted_form σ f)) bare_form (λ t. substituted τ (substituted σ t)) bare (changes_after (substituted_form σ) (substituted_form τ) (substituted σ) (substituted τ) (changes_substituted σ) (changes_substituted τ)) changes_bare

  pub outs_agree : (o : OutTree) → AreAmong (out_vars o) vars → bare_out (substituted_out τ (substituted_out σ o)) ≡ bare_out (substituted_out ρ (substituted_out κ o))
  outs_agree o h =
      out_changes_same (λ f. bare_form (substituted_form τ (substituted_form σ f))) (λ f. bare_form (substituted_form ρ (substituted_form κ f))) (λ t. bare (substituted τ (substituted σ t))) (λ t. bare (substituted ρ (substituted κ t))) (twice σ τ) (twice κ ρ)
      (λ o. bare_out (substituted_out τ (substituted_out σ o))) (λ o. bare_out (substituted_out ρ (substituted_out κ o))) (outs_twice σ τ) (outs_twice κ ρ) o
      (all_agree (out_terms o) h)
    where
      twice : (σ τ : Substitution) → Changes (λ f. bare_form (substituted_form τ (substituted_form σ f))) (λ t. bare (substituted τ (substituted σ t)))
      twice σ τ = changes_after (λ f. substituted_form τ (substituted_form σ f)) bare_form (λ t. substituted τ (substituted σ t)) bare (changes_after (substituted_form σ) (substituted_form τ) (substituted σ) (substituted τ) (changes_substituted σ) (changes_substituted τ)) changes_bare

      outs_twice : (σ τ : Substitution) → OutChanges (λ o. bare_out (substituted_out τ (substituted_out σ o))) (λ f. bare_form (substituted_form τ (substituted_form σ f))) (λ t. bare (substituted τ (substituted σ t)))
      outs_twice σ τ = out_changes_after (λ o. substituted_out τ (substituted_out σ o)) bare_out (λ f. substituted_form τ (substituted_form σ f)) bare_form (λ t. substituted τ (substituted σ t)) bare (out_changes_after (substituted_out σ) (substituted_out τ) (substituted_form σ) (substituted_form τ) (substituted σ) (substituted τ) (out_changes_substituted σ) (out_changes_substituted τ)) out_changes_bare

-- one substitution, where another and then a second one do the same to each variable
pub terms_after : (σ τ κ : Substitution) (vars : List Var) → ((v : Var) → Contains vars v → bare (substituted τ (image σ v)) ≡ bare (image κ v)) → (t : TermTree) → Within vars t → bare (substituted τ (substituted σ t)) ≡ bare (substituted κ t)
terms_after σ τ κ vars same t h = terms_agree σ τ κ [] vars (λ v c. same v c ∙ sym (substituted-none (image κ v))) t h ∙ substituted-none (substituted κ t)

-- two substitutions that do the same to each variable
pub terms_alike : (σ κ : Substitution) (vars : List Var) → ((v : Var) → Contains vars v → bare (image σ v) ≡ bare (image κ v)) → (t : TermTree) → Within vars t → bare (substituted σ t) ≡ bare (substituted κ t)
terms_alike σ κ vars same t h = sym (substituted-none (substituted σ t)) ∙ terms_after σ [] κ vars (λ v c. substituted-none (image σ v) ∙ same v c) t h
