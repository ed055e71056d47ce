-- The parts of formed formulas are formed, and what is answered of a unifier of the parts of two rows.
use Rattle.std.proofs.Common.{◌≡◌, ℕ, zero, suc, inl, inr, List, [], ◌∷◌, ◌++◌, Option, None, Some, All, MatchOption, map, refl, sym, ◌∙◌, ap, subst}
use Rattle.std.specs.List.{flat_map}
use Rattle.std.specs.Option.{option_and_then}
use Rattle.std.proofs.lemmas.Option.{get_or_from_slice_get, slice_get_within}
use Rattle.std.proofs.lemmas.List.Elements.{All-append, All-cons, All-map, All-nil}
use Rattle.syn_term.specs.Bank.{Belongs, Kept}
use Rattle.syn_term.specs.Symbols.{SymbolTable}
use Rattle.syn_form.specs.declared.trees.Form.{out-Form}
use Rattle.syn_form.specs.declared.trees.Form.TheOpen.{Form-F}
use Rattle.syn_form.specs.declared.trees.Form.TheVariants as form
use Rattle.syn_form.specs.declared.trees.Form.TheViews as view
use Rattle.syn_form.specs.Plain.{IsFormed}
use Rattle.syn_form.specs.Positions.{TreePart, at_position, form_parts_layer, formula, part_at, parts_of, term}
use Rattle.syn_form.specs.Simplification.{Junction, chain, conjunction, disjunction}
use Rattle.syn_form.specs.Substitutions.{IsUnifierOfForms, KeepsSorts, Substitution, UnifiesForms}
use Rattle.syn_form.specs.Trees.{FormTree, form_terms}
use Rattle.syn_form.proofs.Equations.{out-And, out-Atom, out-Equal, out-False, out-Implies, out-Not, out-Or, out-True}
use Rattle.syn_form.proofs.FormedForms.{chain_formed, implication_formed, negation_formed}
use Rattle.syn_form.proofs.Inductions.{by_form_cases}
use Rattle.syn_form.proofs.Lists.{All-flat_map}
use Rattle.syn_form.proofs.TreeParts.{formula_is}
use Rattle.syn_row.specs.Rows.{RowTree}
use Rattle.syn_unify.specs.Bindings.{HasNoUnifier}
use Rattle.syn_resolve.specs.Resolution.{AreAt}
use Rattle.syn_resolve.specs.inner.Resolving.{PartsOfBoth, UnifiesParts}
use Rattle.syn_resolve.specs.inner.Standing.{Stand}
use Rattle.syn_resolve.proofs.PartsAt.{form_belongs}
use Rattle.syn_resolve.proofs.PartsStill.{no_form_in_term, stand_one}

module _ (table : SymbolTable) where
  abbrev Has : TreePart → Type 0
  Has (formula f) = IsFormed table f
  Has (term t) = Unit {0}

  abbrev FormHas : FormTree → Type 0
  FormHas f = IsFormed table f → All Has (form_parts_layer (out-Form f))

  at_layer : (f : FormTree) (x : Form-F FormTree) → out-Form f ≡ x → All Has (form_parts_layer x) → All Has (form_parts_layer (out-Form f))
  at_layer f x e h = subst (λ (z : Form-F FormTree). All Has (form_parts_layer z)) (sym e) h

  members_have : (all : List FormTree) → All (IsFormed table) all → All Has (map formula all)
  members_have all h = All-map Has formula all h

  chain_has : (j : Junction) (all : List FormTree) → FormHas (chain j all)
  chain_has conjunction all h = at_layer (view.And all) (Form-F.And all) (out-And all) (members_have all ((chain_formed table (view.And all) all all (inl refl) refl).0 h).1)
  chain_has disjunction all h = at_layer (view.Or all) (Form-F.Or all) (out-Or all) (members_have all ((chain_formed table (view.Or all) all all (inr refl) refl).0 h).1)

  form_has : (f : FormTree) → FormHas f
  form_has = by_form_cases FormHas record {
    at_true = λ h. at_layer form.True Form-F.True out-True (All-nil Has);
    at_false = λ h. at_layer form.False Form-F.False out-False (All-nil Has);
    at_atom = λ r args h. at_layer (form.Atom r args) (Form-F.Atom r args) (out-Atom r args) (All-map Has term args (λ k d lt. tt));
    at_equal = λ s t h. at_layer (form.Equal s t) (Form-F.Equal s t) (out-Equal s t) (All-map Has term (s ∷ t ∷ []) (λ k d lt. tt));
    at_not = λ a held h. at_layer (view.Not a) (Form-F.Not a) (out-Not a) (All-cons Has (formula a) [] ((negation_formed table (view.Not a) a a refl refl).0 h) (All-nil Has));
    at_chain = λ j all held h. chain_has j all h;
    at_implies = λ a b first second h.
        let k = (implication_formed table (view.Implies a b) a b a b refl refl refl).0 h in
        at_layer (view.Implies a b) (Form-F.Implies a b) (out-Implies a b) (All-cons Has (formula a) (formula b ∷ []) k.0 (All-cons Has (formula b) [] k.1 (All-nil Has)));
  }

  part_has : (f : FormTree) (k : ℕ) (q : TreePart) → part_at (formula f) k ≡ Some q → IsFormed table f → Has q
  part_has f zero q e h = absurd (cc)
  part_has f (suc k) q e h = subst Has (get_or_from_slice_get (parts_of (formula f)) k q q e) (form_has f h k q (slice_get_within (parts_of (formula f)) k q e))

  -- what stands at a position of a formed formula
  pub formed_at : (ks : List ℕ) (f h : FormTree) → at_position ks (formula f) ≡ Some (formula h) → IsFormed table f → IsFormed table h
  formed_at [] f h e formed = subst (IsFormed table) (formula_is f h e) formed
  formed_at (k ∷ ks) f h e formed = go (part_at (formula f) k) refl (formed_at ks) e
    where
      go : (o : Option TreePart) → part_at (formula f) k ≡ o → ((x y : FormTree) → at_position ks (formula x) ≡ Some (formula y) → IsFormed table x → IsFormed table y) → option_and_then (at_position ks) o ≡ Some (formula h) → IsFormed table h
      go None is rest n = absurd (cc)
      go (Some (formula x)) is rest n = rest x h n (part_has f k (formula x) is formed)
      go (Some (term t)) is rest n = absurd (no_form_in_term ks t h n)

-- what holds of each formula that stands in another one holds of all at positions
all_stand : (P : FormTree → Type 0) (f : FormTree) → ((k : List ℕ) (h : FormTree) → at_position k (formula f) ≡ Some (formula h) → P h) → (ps : List (List ℕ)) (hs : List FormTree) → Stand f ps hs → All P hs
all_stand P f each [] [] e = All-nil P
all_stand P f each [] (h ∷ hs) e = absurd (cc)
all_stand P f each (p ∷ ps) [] e = absurd (cc)
all_stand P f each (p ∷ ps) (h ∷ hs) e =
    let a : at_position p (formula f) ≡ Some (formula h) = cc in
    let b : Stand f ps hs = cc in All-cons P h hs (each p h a) (all_stand P f each ps hs b)

module _ (ps qs : List (List ℕ)) (first second : RowTree) (parts xs : List FormTree) (both : PartsOfBoth ps qs first.form second.form parts) (same : xs ≡ parts) where
  is_both : xs ≡ both.first_parts ++ both.second_parts
  is_both = same ∙ both.is

  all_parts : (P : FormTree → Type 0) → ((k : List ℕ) (h : FormTree) → at_position k (formula first.form) ≡ Some (formula h) → P h) → ((k : List ℕ) (h : FormTree) → at_position k (formula second.form) ≡ Some (formula h) → P h) → All P xs
  all_parts P a b = subst (All P) (sym is_both) (All-append P both.first_parts both.second_parts (all_stand P first.form a ps both.first_parts both.first_there.there) (all_stand P second.form b qs both.second_parts both.second_there.there))

  pub parts_formed : (table : SymbolTable) → IsFormed table first.form → IsFormed table second.form → All (IsFormed table) xs
  parts_formed table h k = all_parts (IsFormed table) (λ p g e. formed_at table p first.form g e h) (λ p g e. formed_at table p second.form g e k)

  pub parts_belong : (bank : Kept) → All (Belongs bank) (form_terms first.form) → All (Belongs bank) (form_terms second.form) → All (Belongs bank) (flat_map form_terms xs)
  parts_belong bank h k = All-flat_map (Belongs bank) form_terms xs (all_parts (λ f. All (Belongs bank) (form_terms f)) (λ p g e. form_belongs bank p first.form g e h) (λ p g e. form_belongs bank p second.form g e k))

  pub parts_answer : (table : SymbolTable) (o : Option Substitution) → MatchOption o (HasNoUnifier table (UnifiesForms xs)) (IsUnifierOfForms table xs)
      → MatchOption o ((fs gs : List FormTree) → AreAt ps first.form fs → AreAt qs second.form gs → (τ : Substitution) → KeepsSorts table τ → UnifiesForms (fs ++ gs) τ → ⊥) (λ s. UnifiesParts table ps qs first second s)
  parts_answer table None none = λ fs gs a b τ keeps unifies.
      let i : fs ≡ both.first_parts = stand_one first.form ps fs both.first_parts a.there both.first_there.there in
      let j : gs ≡ both.second_parts = stand_one second.form qs gs both.second_parts b.there both.second_there.there in
      let k : fs ++ gs ≡ xs = ap (λ (z : List FormTree). z ++ gs) i ∙ (ap (λ (z : List FormTree). both.first_parts ++ z) j ∙ sym is_both) in
      none τ keeps (subst (λ (z : List FormTree). UnifiesForms z τ) k unifies)
  parts_answer table (Some σ) general = record {
    first_parts = both.first_parts;
    second_parts = both.second_parts;
    first_there = both.first_there;
    second_there = both.second_there;
    general = subst (λ (z : List FormTree). IsUnifierOfForms table z σ) is_both general;
  }
