-- A formula that has no quantifier, as one without them: it is formed where the formula is, and has its free variables; so the goal
-- of a specification is plain.
use Rattle.std.proofs.Common.{◌≡◌, suc, ◌≤◌, List, [], ◌∷◌, ◌++◌, Option, None, Some, All, append-nil, length, map, refl, sym, ◌∙◌, ap, ap₂, subst, inl, inr}
use Rattle.std.specs.List.{flat_map}
use Rattle.std.specs.Option.{option_and_then, option_map}
use Rattle.std.proofs.lemmas.Grind.{flat_map-append}
use Rattle.std.proofs.lemmas.List.Elements.{All-cons, All-head, All-nil, All-tail}
use Rattle.syn_term.specs.declared.sorts.Var.{Var}
use Rattle.syn_term.specs.Symbols.{SymbolTable}
use Rattle.syn_form.specs.declared.trees.Form.TheVariants as form
use Rattle.syn_form.specs.declared.trees.Form.TheViews as view
use Rattle.syn_form.specs.Lists.{all_there}
use Rattle.syn_form.specs.Plain.{IsFormed}
use Rattle.syn_form.specs.PlainQuantified.{IsFormedQ}
use Rattle.syn_form.specs.Quantified.{free_vars, free_vars_step, unquantified, unquantified_step}
use Rattle.syn_form.specs.Trees.{FormTree, QFormTree, all_of, form_terms, form_vars, term_vars}
use Rattle.syn_form.proofs.Equations.{form_terms-Atom, form_terms-Equal, form_terms-False, form_terms-Implies, form_terms-Not, form_terms-True}
use Rattle.syn_form.proofs.FormedForms.{atom_formed, chain_formed, constant_formed, equality_formed, implication_formed, negation_formed}
use Rattle.syn_form.proofs.QForms.{by_qform_cases, qfold-All, qfold-And, qfold-Atom, qfold-Equal, qfold-Exists, qfold-False, qfold-Implies, qfold-Not, qfold-Or, qfold-True}
use Rattle.syn_form.proofs.QNodes.{node-And, node-Atom, node-Equal, node-Or, part-Not, parts-And, parts-Implies, parts-Or}
use Rattle.syn_form.proofs.Variables.{chain_vars}

mapped : {A B : Type 0} (h : A → B) (o : Option A) (y : B) → option_map h o ≡ Some y → (x : A) × (o ≡ Some x) × (h x ≡ y)
mapped h None y e = absurd (cc)
mapped h (Some x) y e = (x, refl, cc)

chained : {A B : Type 0} (h : A → Option B) (o : Option A) (y : B) → option_and_then h o ≡ Some y → (x : A) × (o ≡ Some x) × (h x ≡ Some y)
chained h None y e = absurd (cc)
chained h (Some x) y e = (x, refl, e)

module _ (table : SymbolTable) where
  -- the formula is formed, and its variables are those
  abbrev Has : FormTree → List Var → Type 0
  Has g vars = IsFormed table g × (form_vars g ≡ vars)

  abbrev Whole : QFormTree → Type 0
  Whole f = (g : FormTree) → unquantified f ≡ Some g → IsFormedQ table f → Has g (free_vars f)

  has_along : (g h : FormTree) (vars ws : List Var) → Some g ≡ Some h → ws ≡ vars → Has g vars → Has h ws
  has_along g h vars ws e k x = let same : g ≡ h = cc in subst (λ (z : FormTree). Has z ws) same (x.0, x.1 ∙ sym k)

  moved : (g h : FormTree) (vars ws : List Var) → g ≡ h → ws ≡ vars → Has g vars → Has h ws
  moved g h vars ws e k x = subst (λ (z : FormTree). Has z ws) e (x.0, x.1 ∙ sym k)

  all_whole : (fs : List QFormTree) (gs : List FormTree) → All Whole fs → all_there (map unquantified fs) ≡ Some gs → All (IsFormedQ table) fs → All (IsFormed table) gs × (flat_map form_vars gs ≡ all_of (map free_vars fs)) × (length gs ≡ length fs)
  all_whole [] gs w e h = let none : [] ≡ gs = cc in subst (λ (z : List FormTree). All (IsFormed table) z × (flat_map form_vars z ≡ []) × (length z ≡ 0)) none (All-nil (IsFormed table), refl, refl)
  all_whole (f ∷ fs) gs w e h =
      let a = chained (λ (x : FormTree). option_map (λ (rest : List FormTree). x ∷ rest) (all_there (map unquantified fs))) (unquantified f) gs e in
      let b = mapped (λ (rest : List FormTree). a.0 ∷ rest) (all_there (map unquantified fs)) gs a.2 in
      let first = All-head Whole f fs w a.0 a.1 (All-head (IsFormedQ table) f fs h) in
      let others = all_whole fs b.0 (All-tail Whole f fs w) b.1 (All-tail (IsFormedQ table) f fs h) in
      subst (λ (z : List FormTree). All (IsFormed table) z × (flat_map form_vars z ≡ all_of (map free_vars (f ∷ fs))) × (length z ≡ length (f ∷ fs))) b.2
      (All-cons (IsFormed table) a.0 b.0 first.0 others.0, ap₂ (λ (x y : List Var). x ++ y) first.1 others.1, ap suc others.2)

  two_still : (fs : List QFormTree) (gs : List FormTree) → length gs ≡ length fs → 2 ≤ length fs → 2 ≤ length gs
  two_still fs gs e h = subst (λ n. 2 ≤ n) (sym e) h

  pub without : (f : QFormTree) → Whole f
  without = by_qform_cases Whole record {
    at_true = λ g e h. has_along form.True g [] _ (sym (qfold-True unquantified_step) ∙ e) (qfold-True free_vars_step) (constant_formed table form.True (inl refl), ap (flat_map term_vars) form_terms-True);
    at_false = λ g e h. has_along form.False g [] _ (sym (qfold-False unquantified_step) ∙ e) (qfold-False free_vars_step) (constant_formed table form.False (inr refl), ap (flat_map term_vars) form_terms-False);
    at_atom = λ r args g e h.
        has_along (form.Atom r args) g (flat_map term_vars args) _ (sym (qfold-Atom unquantified_step r args) ∙ e) (qfold-Atom free_vars_step r args)
        ((atom_formed table (form.Atom r args) r args args refl refl).1 (node-Atom _ r args h), ap (flat_map term_vars) (form_terms-Atom r args));
    at_equal = λ s t g e h.
        has_along (form.Equal s t) g (term_vars s ++ term_vars t) _ (sym (qfold-Equal unquantified_step s t) ∙ e) (qfold-Equal free_vars_step s t)
        ((equality_formed table (form.Equal s t) s t refl).1 (node-Equal _ s t h), ap (flat_map term_vars) (form_terms-Equal s t) ∙ ap (λ (z : List Var). term_vars s ++ z) (append-nil (term_vars t)));
    at_not = λ a w g e h.
        let m = mapped view.Not (unquantified a) g (sym (qfold-Not unquantified_step a) ∙ e) in
        let k = w m.0 m.1 (part-Not _ a h) in
        moved (view.Not m.0) g (free_vars a) _ m.2 (qfold-Not free_vars_step a) ((negation_formed table (view.Not m.0) m.0 m.0 refl refl).1 k.0, ap (flat_map term_vars) (form_terms-Not m.0) ∙ k.1);
    at_and = λ all w g e h.
        let m = mapped view.And (all_there (map unquantified all)) g (sym (qfold-And unquantified_step all) ∙ e) in
        let k = all_whole all m.0 w m.1 (parts-And _ all h) in
        moved (view.And m.0) g (all_of (map free_vars all)) _ m.2 (qfold-And free_vars_step all)
        ((chain_formed table (view.And m.0) m.0 m.0 (inl refl) refl).1 (two_still all m.0 k.2 (node-And _ all h), k.0), chain_vars (view.And m.0) m.0 m.0 (inl refl) refl ∙ k.1);
    at_or = λ all w g e h.
        let m = mapped view.Or (all_there (map unquantified all)) g (sym (qfold-Or unquantified_step all) ∙ e) in
        let k = all_whole all m.0 w m.1 (parts-Or _ all h) in
        moved (view.Or m.0) g (all_of (map free_vars all)) _ m.2 (qfold-Or free_vars_step all)
        ((chain_formed table (view.Or m.0) m.0 m.0 (inr refl) refl).1 (two_still all m.0 k.2 (node-Or _ all h), k.0), chain_vars (view.Or m.0) m.0 m.0 (inr refl) refl ∙ k.1);
    at_implies = λ a b w x g e h.
        let m = chained (λ (y : FormTree). option_map (view.Implies y) (unquantified b)) (unquantified a) g (sym (qfold-Implies unquantified_step a b) ∙ e) in
        let n = mapped (view.Implies m.0) (unquantified b) g m.2 in
        let p = parts-Implies _ a b h in
        let k = w m.0 m.1 p.0 in
        let l = x n.0 n.1 p.1 in
        moved (view.Implies m.0 n.0) g (free_vars a ++ free_vars b) _ n.2 (qfold-Implies free_vars_step a b) (
          (implication_formed table (view.Implies m.0 n.0) m.0 n.0 m.0 n.0 refl refl refl).1 (k.0, l.0),
          ap (flat_map term_vars) (form_terms-Implies m.0 n.0) ∙ (flat_map-append term_vars (form_terms m.0) (form_terms n.0) ∙ ap₂ (λ (y z : List Var). y ++ z) k.1 l.1),
        );
    at_all = λ b a w g e h. let none : None ≡ Some g = sym (qfold-All unquantified_step b a) ∙ e in absurd (cc);
    at_exists = λ b a w g e h. let none : None ≡ Some g = sym (qfold-Exists unquantified_step b a) ∙ e in absurd (cc);
  }
