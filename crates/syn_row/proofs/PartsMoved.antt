-- Parts of a row, and of the row with its variables moved.
use Rattle.std.proofs.Common.{◌≡◌, ℕ, List, [], ◌∷◌, Some, All, Contains, map, refl, sym, ◌∙◌, ap}
use Rattle.std.specs.List.{flat_map}
use Rattle.std.specs.Option.{option_map}
use Rattle.std.proofs.lemmas.List.Elements.{All-nil, All-cons, All-contains}
use Rattle.syn_term.specs.declared.sorts.Var.{Var}
use Rattle.syn_term.specs.Terms.{TermTree, bare, nowhere, variable_tree}
use Rattle.syn_form.specs.declared.trees.Form.TheVariants as form
use Rattle.syn_form.specs.Positions.{TreePart, at_position, formula, term}
use Rattle.syn_form.specs.Replacing.{changed_part}
use Rattle.syn_form.specs.Substitutions.{Substitution, image, substituted, substituted_form}
use Rattle.syn_form.specs.Trees.{FormTree, bare_form, form_terms, form_vars, term_vars}
use Rattle.syn_form.proofs.BareVars.{form_vars_bare}
use Rattle.syn_form.proofs.Equations.{Equal-injective, form_terms-Equal}
use Rattle.syn_form.proofs.Lists.{Contains-along, Contains-flat_map}
use Rattle.syn_form.proofs.TreeParts.{formula_is}
use Rattle.syn_row.specs.Rows.{RowTree, row_vars}
use Rattle.syn_row.proofs.Changes.{changes_bare, changes_substituted}
use Rattle.syn_row.proofs.Renaming.{Within, image_by, renaming_by, substituted-Var, substituted-blind, substituted-none}
use Rattle.syn_row.proofs.Telling.{form-along}
use Rattle.syn_row.proofs.Variants.{row-none}
use Rattle.syn_row.proofs.Agreeing.{AreAmong, forms_agree, terms_alike, within_each}
use Rattle.syn_row.proofs.Alike.{renamed_form}
use Rattle.syn_row.proofs.Leading.{form-none}
use Rattle.syn_row.proofs.Pairs.{row_alike}
use Rattle.syn_row.proofs.Passed.{IsMoved}
use Rattle.syn_row.proofs.PartsChanged.{at_changed}
use Rattle.syn_row.proofs.Shape.{changes_renamed, shape_bare, shape_renamed}
use Rattle.syn_row.proofs.Still.{part_among}
use Rattle.syn_row.proofs.Taking.{image_renamed, renamed_in}

module _ (vars : List Var) (over : Var → Var) where
  abbrev moved : Substitution
  moved = renaming_by over vars

  -- what stands at a position of one formula, and of the formula moved
  at_both : (ks : List ℕ) (f f' : FormTree) (p p' : TreePart) → renamed_form moved f ≡ bare_form f' → at_position ks (formula f) ≡ Some p → at_position ks (formula f') ≡ Some p' → Some (changed_part (renamed_form moved) (λ t. bare (substituted moved t)) p) ≡ Some (changed_part bare_form bare p')
  at_both ks f f' p p' e h k =
      sym (at_changed (λ t. bare (substituted moved t)) (shape_renamed moved (renamed_in over vars) (image_renamed over vars)) (renamed_form moved) (changes_renamed moved) ks (formula f) ∙ ap (option_map (changed_part (renamed_form moved) (λ t. bare (substituted moved t)))) h)
      ∙ (ap (λ (z : FormTree). at_position ks (formula z)) e
      ∙ (at_changed bare shape_bare bare_form changes_bare ks (formula f') ∙ ap (option_map (changed_part bare_form bare)) k))

  pub form_at_both : (ks : List ℕ) (f f' h h' : FormTree) → renamed_form moved f ≡ bare_form f' → at_position ks (formula f) ≡ Some (formula h) → at_position ks (formula f') ≡ Some (formula h') → renamed_form moved h ≡ bare_form h'
  form_at_both ks f f' h h' e a b = formula_is (renamed_form moved h) (bare_form h') (at_both ks f f' (formula h) (formula h') e a b)

  pub term_at_both : (ks : List ℕ) (f f' : FormTree) (t t' : TermTree) → renamed_form moved f ≡ bare_form f' → at_position ks (formula f) ≡ Some (term t) → at_position ks (formula f') ≡ Some (term t') → bare (substituted moved t) ≡ bare t'
  term_at_both ks f f' t t' e a b = term_is (bare (substituted moved t)) (bare t') (at_both ks f f' (term t) (term t') e a b)
    where
      term_is : (s t : TermTree) → Some (term s) ≡ Some (term t) → s ≡ t
      term_is s t e = cc

  abbrev At : FormTree → List (List ℕ) → List FormTree → Type 0
  At f places parts = map (λ p. at_position p (formula f)) places ≡ map (λ g. Some (formula g)) parts

  pub parts_at_both : (f f' : FormTree) → renamed_form moved f ≡ bare_form f' → (places : List (List ℕ)) (parts parts' : List FormTree) → At f places parts → At f' places parts' → map (renamed_form moved) parts ≡ map bare_form parts'
  parts_at_both f f' e [] [] [] a b = refl
  parts_at_both f f' e [] [] (h' ∷ hs') a b = absurd (cc)
  parts_at_both f f' e [] (h ∷ hs) parts' a b = absurd (cc)
  parts_at_both f f' e (p ∷ ps) [] parts' a b = absurd (cc)
  parts_at_both f f' e (p ∷ ps) (h ∷ hs) [] a b = absurd (cc)
  parts_at_both f f' e (p ∷ ps) (h ∷ hs) (h' ∷ hs') a b =
      let c : at_position p (formula f) ≡ Some (formula h) = cc in
      let d : at_position p (formula f') ≡ Some (formula h') = cc in
      let i : At f ps hs = cc in
      let j : At f' ps hs' = cc in
      ap (λ (z : FormTree). z ∷ map (renamed_form moved) hs) (form_at_both p f f' h h' e c d) ∙ ap (λ (z : List FormTree). bare_form h' ∷ z) (parts_at_both f f' e ps hs hs' i j)

  -- the two sides of an equality
  pub sides_moved : (s t s' t' : TermTree) → renamed_form moved (form.Equal s t) ≡ bare_form (form.Equal s' t') → (bare (substituted moved s) ≡ bare s') × (bare (substituted moved t) ≡ bare t')
  sides_moved s t s' t' e =
      Equal-injective (bare (substituted moved s)) (bare (substituted moved t)) (bare s') (bare t') (sym ((changes_renamed moved).at_equal s t) ∙ (e ∙ changes_bare.at_equal s' t'))

  -- the variables of parts are those of the whole
  abbrev AmongForm : FormTree → Type 0
  AmongForm f = AreAmong (form_vars f) vars

  pub parts_among : (f : FormTree) → AmongForm f → (places : List (List ℕ)) (parts : List FormTree) → At f places parts → All AmongForm parts
  parts_among f h [] [] a = All-nil AmongForm
  parts_among f h [] (g ∷ gs) a = absurd (cc)
  parts_among f h (p ∷ ps) [] a = absurd (cc)
  parts_among f h (p ∷ ps) (g ∷ gs) a =
      let c : at_position p (formula f) ≡ Some (formula g) = cc in
      let i : At f ps gs = cc in
      All-cons AmongForm g gs (part_among vars p f g c h) (parts_among f h ps gs i)

  pub all_among : (parts : List FormTree) → All AmongForm parts → AreAmong (flat_map form_vars parts) vars
  all_among parts h v c = let p = Contains-flat_map form_vars parts v c in All-contains AmongForm parts p.0 h p.1 v p.2

  pub sides_among : (s t : TermTree) → AmongForm (form.Equal s t) → AreAmong (flat_map term_vars (s ∷ t ∷ [])) vars
  sides_among s t h v c = h v (Contains-along (flat_map term_vars (s ∷ t ∷ [])) (form_vars (form.Equal s t)) v (ap (flat_map term_vars) (sym (form_terms-Equal s t))) c)

-- formulas that are one have the same variables
pub inside_along : (vars : List Var) (f h : FormTree) → bare_form f ≡ bare_form h → All (Within vars) (form_terms f) → All (Within vars) (form_terms h)
inside_along vars f h e k =
    within_each vars (form_terms h) (λ v c.
    let p = Contains-flat_map term_vars (form_terms f) v (Contains-along (form_vars h) (form_vars f) v (sym (form_vars_bare h) ∙ (ap form_vars (sym e) ∙ form_vars_bare f)) c) in
    All-contains (Within vars) (form_terms f) p.0 k p.1 v p.2)

-- where no variable moves, a formula and a row stay as they are
image_idle : (vars : List Var) (v : Var) → Contains vars v → bare (image (renaming_by (λ u. u) vars) v) ≡ bare (variable_tree v)
image_idle vars v c = ap bare (image_by (λ u. u) vars v c)

pub term_idle : (vars : List Var) (t : TermTree) → Within vars t → bare (substituted (renaming_by (λ u. u) vars) t) ≡ bare t
term_idle vars t h = terms_alike (renaming_by (λ u. u) vars) [] vars (image_idle vars) t h ∙ substituted-none t

pub form_idle : (vars : List Var) (f : FormTree) → AreAmong (form_vars f) vars → renamed_form (renaming_by (λ u. u) vars) f ≡ bare_form f
form_idle vars f h =
    let same : Substitution = renaming_by (λ u. u) vars in
    form-along (substituted_form same) (substituted same) (changes_substituted same) (substituted-blind same) f (substituted_form [] f) (sym (form-none f))
    ∙ (forms_agree [] same [] [] vars (λ v c. ap bare (substituted-Var same nowhere v) ∙ (image_idle vars v c ∙ sym (substituted-none (variable_tree v)))) f h
    ∙ (form-none (substituted_form [] f) ∙ form-none f))

pub row_idle : (vars : List Var) (r : RowTree) → AreAmong (row_vars r) vars → IsMoved vars (λ u. u) r r
row_idle vars r h = record { among = h; is = row_alike (renaming_by (λ u. u) vars) [] r (λ v c. image_idle vars v (h v c)) ∙ row-none r }
