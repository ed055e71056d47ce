-- A formula whose subformulas are replaced by a truth value, once all terms are changed by a change that tells apart just what was
-- apart.
use Rattle.std.proofs.Common.{◌≡◌, Bool, true, false, List, [], ◌∷◌, All, map, refl, sym, ◌∙◌, ap, subst}
use Rattle.std.specs.List.{flat_map}
use Rattle.std.proofs.lemmas.List.Elements.{All-head, All-tail}
use Rattle.syn_term.specs.Terms.{TermTree}
use Rattle.syn_form.specs.declared.trees.Form.TheVariants as form
use Rattle.syn_form.specs.declared.trees.Form.TheViews as view
use Rattle.syn_form.specs.Replacing.{replaced_all, truth_form}
use Rattle.syn_form.specs.Same.{same_form}
use Rattle.syn_form.specs.Simplification.{Junction, conjunction, disjunction, chain}
use Rattle.syn_form.specs.Trees.{FormTree, form_terms}
use Rattle.syn_form.proofs.Equations.{form_terms-Implies, form_terms-Not}
use Rattle.syn_form.proofs.Inductions.{by_form_cases}
use Rattle.syn_form.proofs.Owned.{All-left, All-right}
use Rattle.syn_form.proofs.ReplacingParts.{replaced_parts}
use Rattle.syn_form.proofs.SimplifiedTerms.{form_terms-chain}
use Rattle.syn_row.proofs.Changes.{Changes}

module _ (F : FormTree → FormTree) (g : TermTree → TermTree) (c : Changes F g) (P : TermTree → Type 0) (forms : (f h : FormTree) → All P (form_terms f) → All P (form_terms h) → same_form (F f) (F h) ≡ same_form f h) (part : FormTree) (over_part : All P (form_terms part)) (by : Bool) where
  abbrev Over : FormTree → Type 0
  Over f = All P (form_terms f)

  truth_changed : (b : Bool) → F (truth_form b) ≡ truth_form b
  truth_changed true = c.at_true
  truth_changed false = c.at_false

  -- where the whole is the part, and where it isn't
  either_way : (f h x y : FormTree) → F f ≡ h → Over f → (same_form f part ≡ false → replaced_all part by f ≡ x) → (same_form h (F part) ≡ false → replaced_all (F part) by h ≡ y) → y ≡ F x → replaced_all (F part) by (F f) ≡ F (replaced_all part by f)
  either_way f h x y is over miss missed same = ap (replaced_all (F part) by) is ∙ go (same_form f part) refl
    where
      test : same_form h (F part) ≡ same_form f part
      test = ap (λ (z : FormTree). same_form z (F part)) (sym is) ∙ forms f part over over_part

      go : (b : Bool) → same_form f part ≡ b → replaced_all (F part) by h ≡ F (replaced_all part by f)
      go true e = (replaced_parts (F part) by).hit h (test ∙ e) ∙ (sym (truth_changed by) ∙ ap F (sym ((replaced_parts part by).hit f e)))
      go false e = missed (test ∙ e) ∙ (same ∙ ap F (sym (miss e)))

  abbrev Commutes : FormTree → Type 0
  Commutes f = Over f → replaced_all (F part) by (F f) ≡ F (replaced_all part by f)

  members : (all : List FormTree) → All Commutes all → All P (flat_map form_terms all) → map (replaced_all (F part) by) (map F all) ≡ map F (map (replaced_all part by) all)
  members [] h k = refl
  members (f ∷ fs) h k =
      ap (λ (z : FormTree). z ∷ map (replaced_all (F part) by) (map F fs)) (All-head Commutes f fs h (All-left P (form_terms f) (flat_map form_terms fs) k))
      ∙ ap (λ (z : List FormTree). F (replaced_all part by f) ∷ z) (members fs (All-tail Commutes f fs h) (All-right P (form_terms f) (flat_map form_terms fs) k))

  chain_miss : (part : FormTree) (by : Bool) (j : Junction) (all : List FormTree) → same_form (chain j all) part ≡ false → replaced_all part by (chain j all) ≡ chain j (map (replaced_all part by) all)
  chain_miss part by conjunction all = (replaced_parts part by).at_and all
  chain_miss part by disjunction all = (replaced_parts part by).at_or all

  pub all_changed : (f : FormTree) → All P (form_terms f) → replaced_all (F part) by (F f) ≡ F (replaced_all part by f)
  all_changed = by_form_cases Commutes record {
    at_true = λ h. either_way form.True form.True form.True form.True c.at_true h (replaced_parts part by).at_true (replaced_parts (F part) by).at_true (sym c.at_true);
    at_false = λ h. either_way form.False form.False form.False form.False c.at_false h (replaced_parts part by).at_false (replaced_parts (F part) by).at_false (sym c.at_false);
    at_atom = λ r args h. either_way (form.Atom r args) (form.Atom r (map g args)) (form.Atom r args) (form.Atom r (map g args)) (c.at_atom r args) h ((replaced_parts part by).at_atom r args) ((replaced_parts (F part) by).at_atom r (map g args)) (sym (c.at_atom r args));
    at_equal = λ s t h. either_way (form.Equal s t) (form.Equal (g s) (g t)) (form.Equal s t) (form.Equal (g s) (g t)) (c.at_equal s t) h ((replaced_parts part by).at_equal s t) ((replaced_parts (F part) by).at_equal (g s) (g t)) (sym (c.at_equal s t));
    at_not = λ a same h.
        either_way (view.Not a) (view.Not (F a)) (view.Not (replaced_all part by a)) (view.Not (replaced_all (F part) by (F a))) (c.at_not a) h ((replaced_parts part by).at_not a) ((replaced_parts (F part) by).at_not (F a))
        (ap (λ (z : FormTree). view.Not z) (same (subst (All P) (form_terms-Not a) h)) ∙ sym (c.at_not (replaced_all part by a)));
    at_chain = λ j all held h.
        either_way (chain j all) (chain j (map F all)) (chain j (map (replaced_all part by) all)) (chain j (map (replaced_all (F part) by) (map F all))) (c.at_chain j all) h (chain_miss part by j all) (chain_miss (F part) by j (map F all))
        (ap (chain j) (members all held (subst (All P) (form_terms-chain j all) h)) ∙ sym (c.at_chain j (map (replaced_all part by) all)));
    at_implies = λ a b first second h.
        let k = subst (All P) (form_terms-Implies a b) h in
        either_way (view.Implies a b) (view.Implies (F a) (F b)) (view.Implies (replaced_all part by a) (replaced_all part by b)) (view.Implies (replaced_all (F part) by (F a)) (replaced_all (F part) by (F b))) (c.at_implies a b) h
        ((replaced_parts part by).at_implies a b) ((replaced_parts (F part) by).at_implies (F a) (F b))
        (ap (λ (z : FormTree). view.Implies z (replaced_all (F part) by (F b))) (first (All-left P (form_terms a) (form_terms b) k))
        ∙ (ap (λ (z : FormTree). view.Implies (F (replaced_all part by a)) z) (second (All-right P (form_terms a) (form_terms b) k)) ∙ sym (c.at_implies (replaced_all part by a) (replaced_all part by b))));
  }
