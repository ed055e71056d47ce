-- Where the unification of formulas begins and ends.
use Rattle.std.proofs.Common.{◌≡◌, List, [], ◌∷◌, ◌++◌, Option, None, Some, map, get_or, refl, sym, ◌∙◌, ap, subst, All, Contains}
use Rattle.std.specs.List.{flat_map}
use Rattle.std.specs.Prelude.{◌⊎◌, MatchOption}
use Rattle.std.proofs.lemmas.List.Elements.{All-append, All-cons, All-contains, All-nil, Contains-append_cases}
use mathlib.Core.Logic.{inl, inr}
use Rattle.syn_term.specs.declared.sorts.Var.{Var}
use Rattle.syn_term.specs.Symbols.{SymbolTable}
use Rattle.syn_term.specs.Terms.{TermTree, bare}
use Rattle.syn_form.specs.declared.trees.Form.TheVariants as form
use Rattle.syn_form.specs.declared.trees.Form.TheViews as view
use Rattle.syn_form.specs.Inputs.{on_terms_step}
use Rattle.syn_form.specs.Plain.{IsFormed, IsSorted}
use Rattle.syn_form.specs.Substitutions.{Substitution, IsUnifierOfForms, UnifiesForms, image, substituted, substituted_form, substituted_form_step}
use Rattle.syn_form.specs.Trees.{FormTree, bare_form, form_terms, form_vars, term_vars}
use Rattle.syn_form.proofs.Equations.{bare_form-And, bare_form-Atom, bare_form-Equal, bare_form-False, bare_form-Implies, bare_form-Not, bare_form-Or, bare_form-True, fold-And, fold-Atom, fold-Equal, fold-False, fold-Implies, fold-Not, fold-Or, fold-True, form_terms-And, form_terms-Atom, form_terms-Equal, form_terms-False, form_terms-Implies, form_terms-Not, form_terms-Or, form_terms-True}
use Rattle.syn_form.proofs.FormedForms.{atom_formed, chain_formed, equality_formed, implication_formed, negation_formed}
use Rattle.syn_form.proofs.Induction.{by_forms}
use Rattle.syn_form.proofs.Lists.{All-flat_map, Contains-flat_map, Contains-flat_map_from, all_of-map}
use Rattle.syn_unify.specs.declared.pairs.Pair.{Pair}
use Rattle.syn_unify.specs.Bindings.{HasNoUnifier}
use Rattle.syn_unify.specs.inner.Changes.{under}
use Rattle.syn_unify.specs.inner.Forms.{AreEachOne, IsOf, Opened, form_under}
use Rattle.syn_unify.specs.inner.Solutions.{NoneSolves, Reached, Solves, vars_of}
use Rattle.syn_unify.proofs.Ends.{SolvedBy, finish, no_unifier}
use Rattle.syn_unify.proofs.FormPairs.{opened_all, under-And, under-Atom, under-Equal, under-Implies, under-Not, under-Or}
use Rattle.syn_unify.proofs.Under.{each_same, map_twice, substituted_under}

module _ (σ : Substitution) where
  args_under : (args : List TermTree) → map bare (map (substituted σ) args) ≡ map (under (image σ)) args
  args_under args = map_twice bare (substituted σ) args ∙ each_same (λ x. bare (substituted σ x)) (under (image σ)) args (λ k d lt. substituted_under σ (get_or args k d))

  abbrev Is : FormTree → Type 0
  Is f = bare_form (substituted_form σ f) ≡ form_under (image σ) f

  members_under : (all : List FormTree) → All Is all → map bare_form (map (substituted_form σ) all) ≡ map (form_under (image σ)) all
  members_under all h = map_twice bare_form (substituted_form σ) all ∙ each_same (λ x. bare_form (substituted_form σ x)) (form_under (image σ)) all h

  -- the formula as the definitions give it
  pub substituted_form_under : (f : FormTree) → bare_form (substituted_form σ f) ≡ form_under (image σ) f
  substituted_form_under = by_forms Is
      (ap bare_form (fold-True (substituted_form_step σ)) ∙ (bare_form-True ∙ sym (fold-True (on_terms_step (under (image σ))))))
      (ap bare_form (fold-False (substituted_form_step σ)) ∙ (bare_form-False ∙ sym (fold-False (on_terms_step (under (image σ))))))
      (λ r args. ap bare_form (fold-Atom (substituted_form_step σ) r args) ∙ (bare_form-Atom r (map (substituted σ) args) ∙ (ap (form.Atom r) (args_under args) ∙ sym (under-Atom (image σ) r args))))
      (λ s t. ap bare_form (fold-Equal (substituted_form_step σ) s t) ∙ (bare_form-Equal (substituted σ s) (substituted σ t) ∙ (ap (λ (z : TermTree). form.Equal z (bare (substituted σ t))) (substituted_under σ s) ∙ (ap (form.Equal (under (image σ) s)) (substituted_under σ t) ∙ sym (under-Equal (image σ) s t)))))
      (λ a h. ap bare_form (fold-Not (substituted_form_step σ) a) ∙ (bare_form-Not (substituted_form σ a) ∙ (ap (λ (z : FormTree). view.Not z) h ∙ sym (under-Not (image σ) a))))
      (λ all h. ap bare_form (fold-And (substituted_form_step σ) all) ∙ (bare_form-And (map (substituted_form σ) all) ∙ (ap (λ (zs : List FormTree). view.And zs) (members_under all h) ∙ sym (under-And (image σ) all))))
      (λ all h. ap bare_form (fold-Or (substituted_form_step σ) all) ∙ (bare_form-Or (map (substituted_form σ) all) ∙ (ap (λ (zs : List FormTree). view.Or zs) (members_under all h) ∙ sym (under-Or (image σ) all))))
      (λ a b h k. ap bare_form (fold-Implies (substituted_form_step σ) a b) ∙ (bare_form-Implies (substituted_form σ a) (substituted_form σ b) ∙ (ap (λ (z : FormTree). view.Implies z (bare_form (substituted_form σ b))) h ∙ (ap (λ (z : FormTree). view.Implies (form_under (image σ) a) z) k ∙ sym (under-Implies (image σ) a b)))))

-- the substitutions that unify formulas are those that make each two one
unifies_as : (forms : List FormTree) (τ : Substitution) → (UnifiesForms forms τ → AreEachOne forms (image τ)) × (AreEachOne forms (image τ) → UnifiesForms forms τ)
unifies_as forms τ = (
  (λ u f g c d. sym (substituted_form_under τ f) ∙ (u f g c d ∙ substituted_form_under τ g)),
  (λ h f g c d. substituted_form_under τ f ∙ (h f g c d ∙ sym (substituted_form_under τ g))),
)

abbrev pair_vars : Pair → List Var
pair_vars p = term_vars p.left ++ term_vars p.right

-- a variable of the pairs is one of the terms
pairs_vars : (ts : List TermTree) (ps : List Pair) → All (IsOf ts ts) ps → (v : Var) → Contains (vars_of ps) v → Contains (flat_map term_vars ts) v
pairs_vars ts ps h v c = go (Contains-append_cases (term_vars (found.0).left) (term_vars (found.0).right) v found.2)
  where
    found : (p : Pair) × Contains ps p × Contains (pair_vars p) v
    found = Contains-flat_map pair_vars ps v c

    own : IsOf ts ts found.0
    own = All-contains (IsOf ts ts) ps found.0 h found.1

    go : Contains (term_vars (found.0).left) v ⊎ Contains (term_vars (found.0).right) v → Contains (flat_map term_vars ts) v
    go (inl k) = Contains-flat_map_from term_vars ts (found.0).left v own.0 k
    go (inr k) = Contains-flat_map_from term_vars ts (found.0).right v own.1 k

-- and so one of the formulas
forms_vars : (forms : List FormTree) (v : Var) → Contains (flat_map term_vars (flat_map form_terms forms)) v → Contains (flat_map form_vars forms) v
forms_vars forms v c =
    let t = Contains-flat_map term_vars (flat_map form_terms forms) v c in
    let f = Contains-flat_map form_terms forms t.0 t.1 in
    Contains-flat_map_from form_vars forms f.0 v f.1 (Contains-flat_map_from term_vars (form_terms f.0) t.0 v f.2 t.2)

module _ (table : SymbolTable) (forms : List FormTree) where
  abbrev FormsEnd : Option Substitution → Type 0
  FormsEnd o = MatchOption o (HasNoUnifier table (UnifiesForms forms)) (IsUnifierOfForms table forms)

  -- formulas that nothing makes one
  pub forms_never : ((τ : Var → TermTree) → AreEachOne forms τ → ⊥) → FormsEnd None
  forms_never n τ keeps u = n (image τ) ((unifies_as forms τ).0 u)

  module _ (left pairs : List Pair) (none : left ≡ []) (o : Opened (AreEachOne forms) (flat_map form_terms forms) (flat_map form_terms forms) left pairs) where
    are : pairs ≡ o.pairs
    are = o.is ∙ ap (λ (zs : List Pair). zs ++ o.pairs) none

    solved : SolvedBy pairs (UnifiesForms forms)
    solved τ = (
      (λ u. subst (All (Solves (image τ))) (sym are) (o.to (image τ) ((unifies_as forms τ).0 u))),
      (λ h. (unifies_as forms τ).1 (o.from (image τ) (subst (All (Solves (image τ))) are h))),
    )

    among : (v : Var) → Contains (vars_of pairs) v → Contains (flat_map form_vars forms) v
    among v c = forms_vars forms v (pairs_vars (flat_map form_terms forms) pairs (subst (All (IsOf (flat_map form_terms forms) (flat_map form_terms forms))) (sym are) o.parts) v c)

    -- what the solutions of the pairs say of the formulas
    pub forms_end : (s : Option Substitution) → MatchOption s (NoneSolves table pairs) (λ σ. Reached table pairs (vars_of pairs) σ []) → FormsEnd s
    forms_end None h = no_unifier table pairs (UnifiesForms forms) solved (vars_of pairs) (flat_map form_vars forms) among h
    forms_end (Some σ) h = finish table pairs (UnifiesForms forms) solved (vars_of pairs) (flat_map form_vars forms) among σ h

    pub pairs_hold : (P : TermTree → Type 0) → All P (flat_map form_terms forms) → All (λ p. P p.left × P p.right) pairs
    pairs_hold P h = subst (All (λ (p : Pair). P p.left × P p.right)) (sym are) (opened_all P (AreEachOne forms) (flat_map form_terms forms) (flat_map form_terms forms) left pairs h h o)

-- the terms of formulas that are formed are sorted
module _ (table : SymbolTable) where
  abbrev Sorted : FormTree → Type 0
  Sorted f = IsFormed table f → All (IsSorted table) (form_terms f)

  along : (f : FormTree) (xs : List TermTree) → form_terms f ≡ xs → All (IsSorted table) xs → All (IsSorted table) (form_terms f)
  along f xs e h = subst (All (IsSorted table)) (sym e) h

  members_sorted : (all : List FormTree) → All Sorted all → All (IsFormed table) all → All (IsSorted table) (flat_map form_terms all)
  members_sorted all h k = All-flat_map (IsSorted table) form_terms all (λ j d lt. h j d lt (k j d lt))

  formed_sorted : (f : FormTree) → Sorted f
  formed_sorted = by_forms Sorted
      (λ h. along form.True [] form_terms-True (All-nil (IsSorted table)))
      (λ h. along form.False [] form_terms-False (All-nil (IsSorted table)))
      (λ r args h. along (form.Atom r args) args (form_terms-Atom r args) ((atom_formed table (form.Atom r args) r args args refl refl).0 h).1)
      (λ s t h.
      let k = (equality_formed table (form.Equal s t) s t refl).0 h in
      along (form.Equal s t) (s ∷ t ∷ []) (form_terms-Equal s t) (All-cons (IsSorted table) s (t ∷ []) k.0 (All-cons (IsSorted table) t [] k.1 (All-nil (IsSorted table)))))
      (λ a held h. along (view.Not a) (form_terms a) (form_terms-Not a) (held ((negation_formed table (view.Not a) a a refl refl).0 h)))
      (λ all held h. along (view.And all) (flat_map form_terms all) (form_terms-And all ∙ all_of-map form_terms all) (members_sorted all held ((chain_formed table (view.And all) all all (inl refl) refl).0 h).1))
      (λ all held h. along (view.Or all) (flat_map form_terms all) (form_terms-Or all ∙ all_of-map form_terms all) (members_sorted all held ((chain_formed table (view.Or all) all all (inr refl) refl).0 h).1))
      (λ a b left right h.
      let k = (implication_formed table (view.Implies a b) a b a b refl refl refl).0 h in
      along (view.Implies a b) (form_terms a ++ form_terms b) (form_terms-Implies a b) (All-append (IsSorted table) (form_terms a) (form_terms b) (left k.0) (right k.1)))

  pub forms_sorted : (forms : List FormTree) → All (IsFormed table) forms → All (IsSorted table) (flat_map form_terms forms)
  forms_sorted forms h = members_sorted forms (λ k d lt. formed_sorted (get_or forms k d)) h
