-- Renamings: what they make of terms, how they are taken back, and one after another.
use Rattle.std.proofs.Common.{◌≡◌, ◌⊎◌, inl, inr, Bool, true, false, cond, List, [], ◌∷◌, ◌++◌, All, Contains, map, get_or, refl, sym, ◌∙◌, ap, subst}
use Rattle.std.specs.List.{flat_map}
use Rattle.std.proofs.lemmas.List.{map-append}
use Rattle.std.proofs.lemmas.List.Elements.{All-head, All-tail, Contains-get_or}
use Rattle.syn_term.specs.declared.sorts.SymId.{SymId}
use Rattle.syn_term.specs.declared.sorts.Var.{Var}
use Rattle.syn_term.specs.declared.term.Place.{Place}
use Rattle.syn_term.specs.declared.term.Node.TheVariants as node
use Rattle.syn_term.specs.declared.term.Node.TheViews as view
use Rattle.syn_term.specs.Terms.{TermTree, application, bare, bare_step, nowhere, variable_tree}
use Rattle.syn_term.proofs.Trees.{fold-App, fold-Var, fold-bare}
use Rattle.syn_form.specs.Substitutions.{Substitution, image, same_var, substituted, substituted_step}
use Rattle.syn_form.specs.Trees.{term_vars, term_vars_step}
use Rattle.syn_form.proofs.Lists.{Contains-cons_cases, Contains-flat_map_from, Contains-head, Contains-tail, all_of-map, none_in_nil}
use Rattle.syn_form.proofs.BareVars.{term_vars_bare}
use Rattle.syn_form.proofs.TermNodes.{by_term_cases}
use Rattle.syn_row.specs.Rows.{IsRenaming}
use Rattle.syn_row.proofs.Changes.{map_after, map_same}
use Rattle.syn_row.proofs.Numbers.{bare-variable}
use Rattle.syn_row.proofs.SameVars.{same_var_to, same_var_not}
use Rattle.syn_row.proofs.Telling.{Blind}

pub substituted-Var : (σ : Substitution) (p : Place) (v : Var) → substituted σ (node.Var p v) ≡ image σ v
substituted-Var σ p v = fold-Var (substituted_step σ) p v

pub substituted-App : (σ : Substitution) (p : Place) (f : SymId) (args : List TermTree) → substituted σ (view.App p f args) ≡ application f (map (substituted σ) args)
substituted-App σ p f args = fold-App (substituted_step σ) p f args

bare-application : (f : SymId) (args : List TermTree) → bare (application f args) ≡ application f (map bare args)
bare-application f args = fold-App bare_step nowhere f args

vars-App : (p : Place) (f : SymId) (args : List TermTree) → term_vars (view.App p f args) ≡ flat_map term_vars args
vars-App p f args = fold-App term_vars_step p f args ∙ all_of-map term_vars args

-- replacing variables doesn't look at places
pub substituted-blind : (σ : Substitution) → Blind (substituted σ)
substituted-blind σ t = ap bare (fold-bare (substituted_step σ) (λ p v. refl) (λ p f xs. refl) t)

-- all variables of a term, or of terms, are in the list
abbrev pub Within : List Var → TermTree → Type 0
Within vars t = (v : Var) → Contains (term_vars t) v → Contains vars v

within_args : (vars : List Var) (args : List TermTree) → ((v : Var) → Contains (flat_map term_vars args) v → Contains vars v) → All (Within vars) args
within_args vars args h k d lt v c = h v (Contains-flat_map_from term_vars args (get_or args k d) v (Contains-get_or args k d lt) c)

within_parts : (vars : List Var) (p : Place) (f : SymId) (args : List TermTree) → Within vars (view.App p f args) → All (Within vars) args
within_parts vars p f args h = within_args vars args (λ v c. h v (subst (λ (z : List Var). Contains z v) (sym (vars-App p f args)) c))

within_var : (vars : List Var) (p : Place) (v : Var) → Within vars (node.Var p v) → Contains vars v
within_var vars p v h = h v (subst (λ (z : List Var). Contains z v) (sym (fold-Var term_vars_step p v)) (Contains-head v []))

-- no bindings change nothing
pub substituted-none : (t : TermTree) → bare (substituted [] t) ≡ bare t
substituted-none = by_term_cases (λ t. bare (substituted [] t) ≡ bare t)
    (λ p v. ap bare (substituted-Var [] p v) ∙ (bare-variable v ∙ sym (fold-Var bare_step p v)))
    (λ p f args held.
    ap bare (substituted-App [] p f args) ∙ (bare-application f (map (substituted []) args)
    ∙ (ap (application f) (map_after (substituted []) bare args ∙ map_same (λ t. bare (substituted [] t)) bare args held) ∙ sym (fold-App bare_step p f args))))

-- the substitution that takes each of these variables to another
abbrev pub renaming_by : (Var → Var) → List Var → Substitution
renaming_by to vars = map (λ v. record { var = v; term = variable_tree (to v) }) vars

pub image_by : (to : Var → Var) (vars : List Var) (v : Var) → Contains vars v → image (renaming_by to vars) v ≡ variable_tree (to v)
image_by to [] v c = absurd (none_in_nil v c)
image_by to (u ∷ us) v c = go (same_var u v) refl (Contains-cons_cases u us v c) (image_by to us v)
  where
    go : (b : Bool) → same_var u v ≡ b → (u ≡ v) ⊎ Contains us v → (Contains us v → image (renaming_by to us) v ≡ variable_tree (to v)) → cond b (variable_tree (to u)) (image (renaming_by to us) v) ≡ variable_tree (to v)
    go true e d h = ap (λ (z : Var). variable_tree (to z)) (same_var_to u v e)
    go false e (inl k) h = absurd (same_var_not u v e k)
    go false e (inr k) h = h k

-- the first of these variables that becomes w, or w itself
abbrev pub comes_from : (Var → Var) → List Var → Var → Var
comes_from to [] w = w
comes_from to (v ∷ vs) w = cond (same_var (to v) w) v (comes_from to vs w)

abbrev pub Found : (Var → Var) → Var → List Var → Var → Type 0
Found to w xs x = Contains xs x × (to x ≡ w)

pub comes_from_one : (to : Var → Var) (vars : List Var) (w : Var) → Contains (map to vars) w → Contains vars (comes_from to vars w) × (to (comes_from to vars w) ≡ w)
comes_from_one to [] w c = absurd (none_in_nil w c)
comes_from_one to (v ∷ vs) w c = go (same_var (to v) w) refl (Contains-cons_cases (to v) (map to vs) w c) (comes_from_one to vs w)
  where
    go : (b : Bool) → same_var (to v) w ≡ b → (to v ≡ w) ⊎ Contains (map to vs) w → (Contains (map to vs) w → Found to w vs (comes_from to vs w)) → Found to w (v ∷ vs) (cond b v (comes_from to vs w))
    go true e d h = (Contains-head v vs, same_var_to (to v) w e)
    go false e (inl k) h = absurd (same_var_not (to v) w e k)
    go false e (inr k) h = let p = h k in (Contains-tail v vs (comes_from to vs w) p.0, p.1)

pub Contains-map : (to : Var → Var) (vars : List Var) (v : Var) → Contains vars v → Contains (map to vars) (to v)
Contains-map to [] v c = absurd (none_in_nil v c)
Contains-map to (u ∷ us) v c = go (Contains-cons_cases u us v c) (Contains-map to us v)
  where
    go : (u ≡ v) ⊎ Contains us v → (Contains us v → Contains (map to us) (to v)) → Contains (map to (u ∷ us)) (to v)
    go (inl e) h = subst (λ (z : Var). Contains (map to (u ∷ us)) (to z)) e (Contains-head (to u) (map to us))
    go (inr k) h = Contains-tail (to u) (map to us) (to v) (h k)

module _ (σ : Substitution) (vars : List Var) (r : IsRenaming vars σ) where
  -- what a renaming makes of a variable
  image_is : (v : Var) → Contains vars v → bare (image σ v) ≡ variable_tree (r.to v)
  image_is = r.is

  -- the renaming back
  abbrev pub back_by : Substitution
  back_by = renaming_by (comes_from r.to vars) (map r.to vars)

  pub found_back : (v : Var) → Contains vars v → comes_from r.to vars (r.to v) ≡ v
  found_back v c = let p = comes_from_one r.to vars (r.to v) (Contains-map r.to vars v c) in r.one (comes_from r.to vars (r.to v)) v p.0 c p.1

  pub image_back : (v : Var) → Contains vars v → bare (image back_by (r.to v)) ≡ variable_tree v
  image_back v c = ap bare (image_by (comes_from r.to vars) (map r.to vars) (r.to v) (Contains-map r.to vars v c)) ∙ (bare-variable (comes_from r.to vars (r.to v)) ∙ ap variable_tree (found_back v c))

  pub back_renames : IsRenaming (map r.to vars) back_by
  back_renames = record {
    to = comes_from r.to vars;
    is = λ w c. ap bare (image_by (comes_from r.to vars) (map r.to vars) w c) ∙ bare-variable (comes_from r.to vars w);
    sorts = λ w c. let p = comes_from_one r.to vars w c in sym (r.sorts (comes_from r.to vars w) p.0) ∙ ap (λ (z : Var). z.sort) p.1;
    one = λ v w c d e. let p = comes_from_one r.to vars v c in let q = comes_from_one r.to vars w d in sym p.1 ∙ (ap r.to e ∙ q.1);
  }

  -- a renaming and then another substitution, where a third one does the same to each of the variables
  pub substituted_after : (τ κ : Substitution) → ((v : Var) → Contains vars v → bare (image τ (r.to v)) ≡ bare (image κ v)) → (t : TermTree) → Within vars t → bare (substituted τ (substituted σ t)) ≡ bare (substituted κ t)
  substituted_after τ κ same = by_term_cases (λ t. Within vars t → bare (substituted τ (substituted σ t)) ≡ bare (substituted κ t))
      (λ p v h.
      let c = within_var vars p v h in
      ap (λ (z : TermTree). bare (substituted τ z)) (substituted-Var σ p v)
      ∙ (sym (substituted-blind τ (image σ v))
      ∙ (ap (λ (z : TermTree). bare (substituted τ z)) (r.is v c)
      ∙ (ap bare (substituted-Var τ nowhere (r.to v)) ∙ (same v c ∙ sym (ap bare (substituted-Var κ p v)))))))
      (λ p f args held h.
      let parts = within_parts vars p f args h in
      ap (λ (z : TermTree). bare (substituted τ z)) (substituted-App σ p f args)
      ∙ (ap bare (substituted-App τ nowhere f (map (substituted σ) args))
      ∙ (bare-application f (map (substituted τ) (map (substituted σ) args))
      ∙ (ap (application f) (ap (map bare) (map_after (substituted σ) (substituted τ) args)
      ∙ (map_after (λ t. substituted τ (substituted σ t)) bare args
      ∙ (map_same (λ t. bare (substituted τ (substituted σ t))) (λ t. bare (substituted κ t)) args (λ k d lt. held k d lt (parts k d lt)) ∙ sym (map_after (substituted κ) bare args))))
      ∙ sym (ap bare (substituted-App κ p f args) ∙ bare-application f (map (substituted κ) args))))))

  -- the renaming of a term taken back
  pub substituted_back : (t : TermTree) → Within vars t → bare (substituted back_by (substituted σ t)) ≡ bare t
  substituted_back t h = substituted_after back_by [] (λ v c. image_back v c ∙ sym (bare-variable v)) t h ∙ substituted-none t

  -- the variables of a term renamed
  all_renamed : (args : List TermTree) → All (λ t. term_vars (substituted σ t) ≡ map r.to (term_vars t)) args → flat_map term_vars (map (substituted σ) args) ≡ map r.to (flat_map term_vars args)
  all_renamed [] h = refl
  all_renamed (t ∷ ts) h =
      ap (λ (z : List Var). z ++ flat_map term_vars (map (substituted σ) ts)) (All-head (λ u. term_vars (substituted σ u) ≡ map r.to (term_vars u)) t ts h)
      ∙ (ap (λ (z : List Var). map r.to (term_vars t) ++ z) (all_renamed ts (All-tail (λ u. term_vars (substituted σ u) ≡ map r.to (term_vars u)) t ts h)) ∙ sym (map-append r.to (term_vars t) (flat_map term_vars ts)))

  pub vars_renamed : (t : TermTree) → Within vars t → term_vars (substituted σ t) ≡ map r.to (term_vars t)
  vars_renamed = by_term_cases (λ t. Within vars t → term_vars (substituted σ t) ≡ map r.to (term_vars t))
      (λ p v h.
      ap term_vars (substituted-Var σ p v)
      ∙ (sym (term_vars_bare (image σ v)) ∙ (ap term_vars (r.is v (within_var vars p v h)) ∙ (fold-Var term_vars_step nowhere (r.to v) ∙ ap (map r.to) (sym (fold-Var term_vars_step p v))))))
      (λ p f args held h.
      let parts = within_parts vars p f args h in
      ap term_vars (substituted-App σ p f args)
      ∙ (vars-App nowhere f (map (substituted σ) args) ∙ (all_renamed args (λ k d lt. held k d lt (parts k d lt)) ∙ ap (map r.to) (sym (vars-App p f args)))))

  module _ (τ : Substitution) (s : IsRenaming (map r.to vars) τ) where
    -- one renaming after another
    abbrev pub both_by : Substitution
    both_by = renaming_by (λ v. s.to (r.to v)) vars

    pub both_rename : IsRenaming vars both_by
    both_rename = record {
      to = λ v. s.to (r.to v);
      is = λ v c. ap bare (image_by (λ w. s.to (r.to w)) vars v c) ∙ bare-variable (s.to (r.to v));
      sorts = λ v c. s.sorts (r.to v) (Contains-map r.to vars v c) ∙ r.sorts v c;
      one = λ v w c d e. r.one v w c d (s.one (r.to v) (r.to w) (Contains-map r.to vars v c) (Contains-map r.to vars w d) e);
    }

    pub substituted_both : (t : TermTree) → Within vars t → bare (substituted τ (substituted σ t)) ≡ bare (substituted both_by t)
    substituted_both = substituted_after τ both_by (λ v c. s.is (r.to v) (Contains-map r.to vars v c) ∙ sym (ap bare (image_by (λ w. s.to (r.to w)) vars v c) ∙ bare-variable (s.to (r.to v))))
