-- What each term hands on to its arguments, the terms at each position of a formula have where all its terms have it.
use Rattle.std.proofs.Common.{◌≡◌, ℕ, zero, suc, List, [], ◌∷◌, Option, None, Some, All, get_or, map, refl, sym, subst}
use Rattle.std.specs.List.{flat_map}
use Rattle.std.specs.Option.{option_and_then}
use Rattle.std.proofs.lemmas.Option.{get_or_from_slice_get, slice_get_within}
use Rattle.std.proofs.lemmas.List.Elements.{All-cons, All-head, All-map, All-nil, All-tail, Contains-get_or}
use Rattle.syn_term.specs.Bank.{Belongs, Kept}
use Rattle.syn_term.specs.declared.sorts.SymId.{SymId}
use Rattle.syn_term.specs.declared.term.Node.TheViews as node_view
use Rattle.syn_term.specs.declared.term.Place.{Place}
use Rattle.syn_term.specs.Symbols.{SymbolTable}
use Rattle.syn_term.specs.Terms.{TermTree, args_of}
use Rattle.syn_form.specs.declared.trees.Form.{out-Form}
use Rattle.syn_form.specs.declared.trees.Form.TheOpen.{Form-F}
use Rattle.syn_form.specs.declared.trees.Form.TheVariants as form
use Rattle.syn_form.specs.declared.trees.Form.TheViews as view
use Rattle.syn_form.specs.Plain.{IsFormed, IsSorted, SortedNode}
use Rattle.syn_form.specs.Positions.{TreePart, at_position, form_parts_layer, formula, part_at, parts_of, term}
use Rattle.syn_form.specs.Simplification.{Junction, chain, conjunction, disjunction}
use Rattle.syn_form.specs.Trees.{FormTree, form_terms}
use Rattle.syn_form.proofs.Equations.{form_terms-Atom, form_terms-Equal, form_terms-Implies, form_terms-Not, out-And, out-Atom, out-Equal, out-False, out-Implies, out-Not, out-Or, out-True}
use Rattle.syn_form.proofs.Inductions.{by_form_cases}
use Rattle.syn_form.proofs.Lists.{All-within, Contains-flat_map_from}
use Rattle.syn_form.proofs.Owned.{All-left, All-right}
use Rattle.syn_form.proofs.SimplifiedTerms.{form_terms-chain}
use Rattle.syn_form.proofs.TermNodes.{by_term_cases, parts-App}
use Rattle.syn_row.proofs.OwnArgs.{own_args}
use Rattle.syn_row.proofs.Shape.{args-App, args-Var}
use Rattle.syn_unify.proofs.FormEnds.{forms_sorted}

module _ (P : TermTree → Type 0) (down : (p : Place) (f : SymId) (args : List TermTree) → P (node_view.App p f args) → All P args) where
  abbrev Has : TreePart → Type 0
  Has (formula f) = All P (form_terms f)
  Has (term t) = P t

  args_have : (t : TermTree) → P t → All P (args_of t)
  args_have = by_term_cases (λ t. P t → All P (args_of t))
      (λ p v h. subst (All P) (sym (args-Var p v)) (All-nil P))
      (λ p f args held h. subst (All P) (sym (args-App p f args)) (down p f args h))

  abbrev FormHas : FormTree → Type 0
  FormHas f = All P (form_terms f) → All Has (form_parts_layer (out-Form f))

  at_layer : (f : FormTree) (x : Form-F FormTree) → out-Form f ≡ x → All Has (form_parts_layer x) → All Has (form_parts_layer (out-Form f))
  at_layer f x e h = subst (λ (z : Form-F FormTree). All Has (form_parts_layer z)) (sym e) h

  forms_have : (all : List FormTree) → All P (flat_map form_terms all) → All Has (map formula all)
  forms_have all h =
      All-map Has formula all (λ k d lt. All-within P (form_terms (get_or all k d)) (flat_map form_terms all) (λ x c. Contains-flat_map_from form_terms all (get_or all k d) x (Contains-get_or all k d lt) c) h)

  chain_has : (j : Junction) (all : List FormTree) → FormHas (chain j all)
  chain_has conjunction all h = at_layer (view.And all) (Form-F.And all) (out-And all) (forms_have all (subst (All P) (form_terms-chain conjunction all) h))
  chain_has disjunction all h = at_layer (view.Or all) (Form-F.Or all) (out-Or all) (forms_have all (subst (All P) (form_terms-chain disjunction all) h))

  form_has : (f : FormTree) → FormHas f
  form_has = by_form_cases FormHas record {
    at_true = λ h. at_layer form.True Form-F.True out-True (All-nil Has);
    at_false = λ h. at_layer form.False Form-F.False out-False (All-nil Has);
    at_atom = λ r args h. at_layer (form.Atom r args) (Form-F.Atom r args) (out-Atom r args) (All-map Has term args (subst (All P) (form_terms-Atom r args) h));
    at_equal = λ s t h. at_layer (form.Equal s t) (Form-F.Equal s t) (out-Equal s t) (All-map Has term (s ∷ t ∷ []) (subst (All P) (form_terms-Equal s t) h));
    at_not = λ a held h. at_layer (view.Not a) (Form-F.Not a) (out-Not a) (All-cons Has (formula a) [] (subst (All P) (form_terms-Not a) h) (All-nil Has));
    at_chain = λ j all held h. chain_has j all h;
    at_implies = λ a b first second h.
        let k = subst (All P) (form_terms-Implies a b) h in
        at_layer (view.Implies a b) (Form-F.Implies a b) (out-Implies a b) (All-cons Has (formula a) (formula b ∷ []) (All-left P (form_terms a) (form_terms b) k) (All-cons Has (formula b) [] (All-right P (form_terms a) (form_terms b) k) (All-nil Has)));
  }

  parts_have : (p : TreePart) → Has p → All Has (parts_of p)
  parts_have (formula f) h = form_has f h
  parts_have (term t) h = All-map Has term (args_of t) (args_have t h)

  part_has : (p : TreePart) (k : ℕ) (q : TreePart) → part_at p k ≡ Some q → Has p → Has q
  part_has p zero q e h = absurd (cc)
  part_has p (suc k) q e h = subst Has (get_or_from_slice_get (parts_of p) k q q e) (parts_have p h k q (slice_get_within (parts_of p) k q e))

  -- what stands at a position
  have_at : (ks : List ℕ) (p q : TreePart) → at_position ks p ≡ Some q → Has p → Has q
  have_at [] p q e h = let same : p ≡ q = cc in subst Has same h
  have_at (k ∷ ks) p q e h = go (part_at p k) refl (have_at ks) e
    where
      go : (o : Option TreePart) → part_at p k ≡ o → ((x y : TreePart) → at_position ks x ≡ Some y → Has x → Has y) → option_and_then (at_position ks) o ≡ Some q → Has q
      go None is rest n = absurd (cc)
      go (Some x) is rest n = rest x q n (part_has p k x is h)

  sides_have : (ks : List ℕ) (f : FormTree) (s t : TermTree) → at_position ks (formula f) ≡ Some (formula (form.Equal s t)) → All P (form_terms f) → P s × P t
  sides_have ks f s t e h =
      let k : All P (s ∷ t ∷ []) = subst (All P) (form_terms-Equal s t) (have_at ks (formula f) (formula (form.Equal s t)) e h) in
      (All-head P s (t ∷ []) k, All-head P t [] (All-tail P s (t ∷ []) k))

-- the terms of a formed formula are sorted
pub terms_sorted : (table : SymbolTable) (f : FormTree) → IsFormed table f → All (IsSorted table) (form_terms f)
terms_sorted table f h = All-left (IsSorted table) (form_terms f) [] (forms_sorted table (f ∷ []) (All-cons (IsFormed table) f [] h (All-nil (IsFormed table))))

-- the sides of an equality in a formed formula are sorted, and they belong to the bank of the formula's terms
pub sides_sorted : (table : SymbolTable) (ks : List ℕ) (f : FormTree) (s t : TermTree) → at_position ks (formula f) ≡ Some (formula (form.Equal s t)) → IsFormed table f → IsSorted table s × IsSorted table t
sides_sorted table ks f s t e h =
    sides_have (IsSorted table) (parts-App (SortedNode table)) ks f s t e (terms_sorted table f h)

pub sides_belong : (bank : Kept) (ks : List ℕ) (f : FormTree) (s t : TermTree) → at_position ks (formula f) ≡ Some (formula (form.Equal s t)) → All (Belongs bank) (form_terms f) → Belongs bank s × Belongs bank t
sides_belong bank = sides_have (Belongs bank) (λ p g args h. own_args bank (node_view.App p g args) p g args args refl refl h)

-- so do the terms of a formula there
pub form_belongs : (bank : Kept) (ks : List ℕ) (f h : FormTree) → at_position ks (formula f) ≡ Some (formula h) → All (Belongs bank) (form_terms f) → All (Belongs bank) (form_terms h)
form_belongs bank ks f h = have_at (Belongs bank) (λ p g args h. own_args bank (node_view.App p g args) p g args args refl refl h) ks (formula f) (formula h)

-- and a term there
pub term_sorted : (table : SymbolTable) (ks : List ℕ) (f : FormTree) (t : TermTree) → at_position ks (formula f) ≡ Some (term t) → IsFormed table f → IsSorted table t
term_sorted table ks f t e h = have_at (IsSorted table) (parts-App (SortedNode table)) ks (formula f) (term t) e (terms_sorted table f h)

pub term_belongs : (bank : Kept) (ks : List ℕ) (f : FormTree) (t : TermTree) → at_position ks (formula f) ≡ Some (term t) → All (Belongs bank) (form_terms f) → Belongs bank t
term_belongs bank ks f t = have_at (Belongs bank) (λ p g args h. own_args bank (node_view.App p g args) p g args args refl refl h) ks (formula f) (term t)
