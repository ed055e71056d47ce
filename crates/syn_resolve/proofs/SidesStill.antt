-- The terms and the equalities at positions of a formula stand there in its instances too, and in what is one with these.
use Rattle.std.proofs.Common.{◌≡◌, ℕ, zero, suc, List, [], ◌∷◌, Option, None, Some, map, slice_get, refl, sym, ◌∙◌, ap}
use Rattle.std.specs.Option.{option_and_then, option_map}
use Rattle.syn_term.specs.Terms.{TermTree, args_of, bare, nowhere}
use Rattle.syn_form.specs.declared.trees.Form.{out-Form}
use Rattle.syn_form.specs.declared.trees.Form.TheOpen.{Form-F}
use Rattle.syn_form.specs.declared.trees.Form.TheVariants as form
use Rattle.syn_form.specs.declared.trees.Form.TheViews as view
use Rattle.syn_form.specs.Positions.{TreePart, at_position, formula, part_at, term}
use Rattle.syn_form.specs.Replacing.{changed_part}
use Rattle.syn_form.specs.Simplification.{Junction, chain, conjunction, disjunction}
use Rattle.syn_form.specs.Substitutions.{Substitution, substituted, substituted_form}
use Rattle.syn_form.specs.Trees.{FormTree, bare_form}
use Rattle.syn_form.proofs.Equations.{out-And, out-Atom, out-Equal, out-False, out-Implies, out-Not, out-Or, out-True}
use Rattle.syn_form.proofs.Inductions.{by_form_cases}
use Rattle.syn_form.proofs.TermNodes.{by_term_cases}
use Rattle.syn_form.proofs.TreeParts.{get_map}
use Rattle.syn_row.proofs.Changes.{changes_bare, changes_substituted}
use Rattle.syn_row.proofs.PartsChanged.{at_changed}
use Rattle.syn_row.proofs.Renaming.{substituted-App}
use Rattle.syn_row.proofs.Shape.{args-App, args-Var, shape_bare}
use Rattle.syn_resolve.proofs.PartsStill.{form_at_along, part_changed}

-- what is an equality once its places are left out is one
abbrev Shown : FormTree → Type 0
Shown h = (x y : TermTree) → bare_form h ≡ form.Equal x y → (s t : TermTree) × (h ≡ form.Equal s t)

abbrev out_bare : (h : FormTree) (z : FormTree) (x y : TermTree) → bare_form h ≡ z → bare_form h ≡ form.Equal x y → out-Form z ≡ Form-F.Equal x y
out_bare h z x y is e = ap out-Form (sym is ∙ e) ∙ out-Equal x y

chain_shown : (j : Junction) (all : List FormTree) → Shown (chain j all)
chain_shown conjunction all x y e = let k : Form-F.And (map bare_form all) ≡ Form-F.Equal x y = sym (out-And (map bare_form all)) ∙ out_bare (view.And all) (view.And (map bare_form all)) x y (changes_bare.at_chain conjunction all) e in absurd (cc)
chain_shown disjunction all x y e = let k : Form-F.Or (map bare_form all) ≡ Form-F.Equal x y = sym (out-Or (map bare_form all)) ∙ out_bare (view.Or all) (view.Or (map bare_form all)) x y (changes_bare.at_chain disjunction all) e in absurd (cc)

equality_shown : (h : FormTree) → Shown h
equality_shown = by_form_cases Shown record {
  at_true = λ x y e. let k : Form-F.True ≡ Form-F.Equal x y = sym out-True ∙ out_bare form.True form.True x y changes_bare.at_true e in absurd (cc);
  at_false = λ x y e. let k : Form-F.False ≡ Form-F.Equal x y = sym out-False ∙ out_bare form.False form.False x y changes_bare.at_false e in absurd (cc);
  at_atom = λ r args x y e. let k : Form-F.Atom r (map bare args) ≡ Form-F.Equal x y = sym (out-Atom r (map bare args)) ∙ out_bare (form.Atom r args) (form.Atom r (map bare args)) x y (changes_bare.at_atom r args) e in absurd (cc);
  at_equal = λ s t x y e. (s, t, refl);
  at_not = λ a held x y e. let k : Form-F.Not (bare_form a) ≡ Form-F.Equal x y = sym (out-Not (bare_form a)) ∙ out_bare (view.Not a) (view.Not (bare_form a)) x y (changes_bare.at_not a) e in absurd (cc);
  at_chain = λ j all held. chain_shown j all;
  at_implies = λ a b first second x y e. let k : Form-F.Implies (bare_form a) (bare_form b) ≡ Form-F.Equal x y = sym (out-Implies (bare_form a) (bare_form b)) ∙ out_bare (view.Implies a b) (view.Implies (bare_form a) (bare_form b)) x y (changes_bare.at_implies a b) e in absurd (cc);
}

pub term_is : (s t : TermTree) → Some (term s) ≡ Some (term t) → s ≡ t
term_is s t e = cc

module _ (σ : Substitution) where
  -- an argument of a term is one of its instance
  arg_put : (k : ℕ) (u t : TermTree) → slice_get (args_of t) k ≡ Some u → slice_get (args_of (substituted σ t)) k ≡ Some (substituted σ u)
  arg_put k u = by_term_cases (λ t. slice_get (args_of t) k ≡ Some u → slice_get (args_of (substituted σ t)) k ≡ Some (substituted σ u))
      (λ p v e. let n : slice_get [] k ≡ Some u = sym (ap (λ (z : List TermTree). slice_get z k) (args-Var p v)) ∙ e in absurd (cc))
      (λ p f args held e.
      ap (λ (z : List TermTree). slice_get z k) (ap args_of (substituted-App σ p f args) ∙ args-App nowhere f (map (substituted σ) args))
      ∙ (get_map (substituted σ) args k ∙ ap (option_map (substituted σ)) (sym (ap (λ (z : List TermTree). slice_get z k) (args-App p f args)) ∙ e)))

  term_in_term : (ks : List ℕ) (t u : TermTree) → at_position ks (term t) ≡ Some (term u) → at_position ks (term (substituted σ t)) ≡ Some (term (substituted σ u))
  term_in_term [] t u e = ap (λ (z : TermTree). Some (term (substituted σ z))) (term_is t u e)
  term_in_term (zero ∷ ks) t u e = absurd (cc)
  term_in_term (suc k ∷ ks) t u e =
      ap (option_and_then (at_position ks)) (get_map term (args_of (substituted σ t)) k)
      ∙ go (slice_get (args_of t) k) refl (term_in_term ks) (sym (ap (option_and_then (at_position ks)) (get_map term (args_of t) k)) ∙ e)
    where
      go : (o : Option TermTree) → slice_get (args_of t) k ≡ o → ((x y : TermTree) → at_position ks (term x) ≡ Some (term y) → at_position ks (term (substituted σ x)) ≡ Some (term (substituted σ y))) → option_and_then (at_position ks) (option_map term o) ≡ Some (term u) → option_and_then (at_position ks) (option_map term (slice_get (args_of (substituted σ t)) k)) ≡ Some (term (substituted σ u))
      go None is rest n = absurd (cc)
      go (Some x) is rest n = ap (λ (z : Option TermTree). option_and_then (at_position ks) (option_map term z)) (arg_put k x t is) ∙ rest x u n

  -- the term at a position of an instance
  term_at_put : (ks : List ℕ) (f : FormTree) (u : TermTree) → at_position ks (formula f) ≡ Some (term u) → at_position ks (formula (substituted_form σ f)) ≡ Some (term (substituted σ u))
  term_at_put [] f u e = absurd (cc)
  term_at_put (k ∷ ks) f u e = ap (option_and_then (at_position ks)) (part_changed (substituted_form σ) (substituted σ) (changes_substituted σ) f k) ∙ go (part_at (formula f) k) (term_at_put ks) e
    where
      go : (o : Option TreePart) → ((x : FormTree) (y : TermTree) → at_position ks (formula x) ≡ Some (term y) → at_position ks (formula (substituted_form σ x)) ≡ Some (term (substituted σ y))) → option_and_then (at_position ks) o ≡ Some (term u) → option_and_then (at_position ks) (option_map (changed_part (substituted_form σ) (substituted σ)) o) ≡ Some (term (substituted σ u))
      go None rest n = absurd (cc)
      go (Some (formula x)) rest n = rest x u n
      go (Some (term t)) rest n = term_in_term ks t u n

  module _ (f f' : FormTree) (same : bare_form f' ≡ bare_form (substituted_form σ f)) where
    abbrev TermPartner : List ℕ → TermTree → Type 0
    TermPartner ks u = (u' : TermTree) × (at_position ks (formula f') ≡ Some (term u')) × (bare u' ≡ bare (substituted σ u))

    pub term_at_along : (ks : List ℕ) (u : TermTree) → at_position ks (formula f) ≡ Some (term u) → TermPartner ks u
    term_at_along ks u e = go (at_position ks (formula f')) refl (sym (at_changed bare shape_bare bare_form changes_bare ks (formula f')) ∙ (ap (λ (z : FormTree). at_position ks (formula z)) same ∙ (at_changed bare shape_bare bare_form changes_bare ks (formula (substituted_form σ f)) ∙ ap (option_map (changed_part bare_form bare)) (term_at_put ks f u e))))
      where
        go : (o : Option TreePart) → at_position ks (formula f') ≡ o → option_map (changed_part bare_form bare) o ≡ Some (term (bare (substituted σ u))) → TermPartner ks u
        go None is n = absurd (cc)
        go (Some (formula x)) is n = absurd (cc)
        go (Some (term t)) is n = (t, is, term_is (bare t) (bare (substituted σ u)) n)

    -- the equality at a position of it
    pub equality_at_along : (ks : List ℕ) (s t : TermTree) → at_position ks (formula f) ≡ Some (formula (form.Equal s t)) → (s' t' : TermTree) × (at_position ks (formula f') ≡ Some (formula (form.Equal s' t')))
    equality_at_along ks s t e =
        let x = form_at_along (substituted_form σ) (substituted σ) (changes_substituted σ) f f' same ks (form.Equal s t) e in
        let y = equality_shown x.0 (bare (substituted σ s)) (bare (substituted σ t)) (x.2 ∙ (ap bare_form ((changes_substituted σ).at_equal s t) ∙ changes_bare.at_equal (substituted σ s) (substituted σ t))) in
        (y.0, y.1, x.1 ∙ ap (λ (z : FormTree). Some (formula z)) y.2)
