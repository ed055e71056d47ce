-- Where terms are replaced by terms of the same value, a formula keeps its truth, by every valuation.
use Rattle.std.proofs.Common.{◌≡◌, ℕ, Bool, not, ◌||◌, List, [], ◌∷◌, Option, None, Some, All, map, set, refl, sym, ◌∙◌, ap, subst}
use Rattle.std.specs.List.{flat_map, list_all, list_any}
use Rattle.std.specs.Option.{unwrap_or}
use Rattle.std.proofs.lemmas.List.Elements.{All-head, All-tail}
use Rattle.syn_term.specs.declared.sorts.SymId.{SymId}
use Rattle.syn_term.specs.Terms.{TermTree, application, bare, nowhere}
use Rattle.syn_term.proofs.Positions.{fold-kept}
use Rattle.syn_term.proofs.Trees.{fold-App, fold-Var, fold-bare}
use Rattle.syn_form.specs.declared.trees.Form.TheVariants as form
use Rattle.syn_form.specs.declared.trees.Form.TheViews as view
use Rattle.syn_form.specs.Inputs.{Inputs, form_with_inputs, listed_term, on_terms, on_terms_step, with_inputs, with_inputs_step}
use Rattle.syn_form.specs.Positions.{formula, term, at_position}
use Rattle.syn_form.specs.Replacing.{form_replaced_at}
use Rattle.syn_form.specs.Simplification.{Junction, conjunction, disjunction, chain}
use Rattle.syn_form.specs.Trees.{FormTree, form_terms}
use Rattle.syn_form.specs.Valuations.{Valuation, value_of, value_step, truth_by, truth_by_step}
use Rattle.syn_form.proofs.Equations.{fold-True, fold-False, fold-Atom, fold-Equal, fold-Not, fold-And, fold-Or, fold-Implies, form_terms-Atom, form_terms-Equal, form_terms-Not, form_terms-Implies}
use Rattle.syn_form.proofs.Inductions.{by_form_cases}
use Rattle.syn_form.proofs.InputTerms.{listed_entry}
use Rattle.syn_form.proofs.OnTerms.{on_terms-chain}
use Rattle.syn_form.proofs.Owned.{All-left, All-right}
use Rattle.syn_form.proofs.ReplacedTerms.{same_set}
use Rattle.syn_form.proofs.SimplifiedTerms.{form_terms-chain}
use Rattle.syn_form.proofs.TermNodes.{by_term_cases}
use Rattle.syn_form.proofs.TreeParts.{Congruence, related_at}

module _ {A : Type 0} (v : Valuation A) where
  truths_all : (xs ys : List FormTree) (j : Junction) → map (truth_by v) xs ≡ map (truth_by v) ys → truth_by v (chain j xs) ≡ truth_by v (chain j ys)
  truths_all xs ys conjunction e = fold-And (truth_by_step v) xs ∙ (ap (list_all (λ x. x)) e ∙ sym (fold-And (truth_by_step v) ys))
  truths_all xs ys disjunction e = fold-Or (truth_by_step v) xs ∙ (ap (list_any (λ x. x)) e ∙ sym (fold-Or (truth_by_step v) ys))

  at_args : (r : SymId) (xs ys : List TermTree) → map (value_of v) xs ≡ map (value_of v) ys → truth_by v (form.Atom r xs) ≡ truth_by v (form.Atom r ys)
  at_args r xs ys e = fold-Atom (truth_by_step v) r xs ∙ (ap (v.atom r) e ∙ sym (fold-Atom (truth_by_step v) r ys))

  at_sides : (s t u w : TermTree) → value_of v s ≡ value_of v u → value_of v t ≡ value_of v w → truth_by v (form.Equal s t) ≡ truth_by v (form.Equal u w)
  at_sides s t u w e k = fold-Equal (truth_by_step v) s t ∙ (ap (λ (z : A). v.equal z (value_of v t)) e ∙ (ap (v.equal (value_of v u)) k ∙ sym (fold-Equal (truth_by_step v) u w)))

  at_negation : (a b : FormTree) → truth_by v a ≡ truth_by v b → truth_by v (view.Not a) ≡ truth_by v (view.Not b)
  at_negation a b e = fold-Not (truth_by_step v) a ∙ (ap not e ∙ sym (fold-Not (truth_by_step v) b))

  at_implication : (a b c d : FormTree) → truth_by v a ≡ truth_by v c → truth_by v b ≡ truth_by v d → truth_by v (view.Implies a b) ≡ truth_by v (view.Implies c d)
  at_implication a b c d e k =
      fold-Implies (truth_by_step v) a b ∙ (ap (λ (z : Bool). not z || truth_by v b) e ∙ (ap (λ (z : Bool). not (truth_by v c) || z) k ∙ sym (fold-Implies (truth_by_step v) c d)))

  pub keeps_truth : Congruence (λ t u. value_of v u ≡ value_of v t) (λ f g. truth_by v g ≡ truth_by v f)
  keeps_truth = record {
    at_atom = λ r args i t u e h. at_args r (set args i u) args (same_set (value_of v) args i t u e h);
    at_left = λ s t u h. at_sides u t s t h refl;
    at_right = λ s t u h. at_sides s u s t refl h;
    at_not = λ a b h. at_negation b a h;
    at_chain = λ j all i a b e h. truths_all (set all i b) all j (same_set (truth_by v) all i a b e h);
    at_premise = λ a b c h. at_implication c b a b h refl;
    at_conclusion = λ a b c h. at_implication a c a b refl h;
  }

  -- a term replaced by one of its value
  pub replaced_term-truth : (p : List ℕ) (new old : TermTree) (f : FormTree) → at_position p (formula f) ≡ Some (term old) → value_of v old ≡ value_of v new → truth_by v (form_replaced_at p new f) ≡ truth_by v f
  replaced_term-truth p new old f there e =
      related_at (λ t u. value_of v u ≡ value_of v t) (λ g h. truth_by v h ≡ truth_by v g) keeps_truth new old (λ q t at. fold-kept (value_step v) q new t old at e) p f there

  module _ (g : TermTree → TermTree) where
    abbrev Same : TermTree → Type 0
    Same t = value_of v (g t) ≡ value_of v t

    abbrev Kept : FormTree → Type 0
    Kept f = All Same (form_terms f) → truth_by v (on_terms g f) ≡ truth_by v f

    values_same : (ts : List TermTree) → All Same ts → map (value_of v) (map g ts) ≡ map (value_of v) ts
    values_same [] h = refl
    values_same (t ∷ ts) h = let e : value_of v (g t) ≡ value_of v t = All-head Same t ts h in let k = values_same ts (All-tail Same t ts h) in cc

    truths_same : (fs : List FormTree) → All Kept fs → All Same (flat_map form_terms fs) → map (truth_by v) (map (on_terms g) fs) ≡ map (truth_by v) fs
    truths_same [] h k = refl
    truths_same (f ∷ fs) h k =
        let e : truth_by v (on_terms g f) ≡ truth_by v f = All-head Kept f fs h (All-left Same (form_terms f) (flat_map form_terms fs) k) in
        let m = truths_same fs (All-tail Kept f fs h) (All-right Same (form_terms f) (flat_map form_terms fs) k) in cc

    -- each term replaced by one of its value
    pub on_terms-truth : (f : FormTree) → All Same (form_terms f) → truth_by v (on_terms g f) ≡ truth_by v f
    on_terms-truth = by_form_cases Kept record {
      at_true = λ h. ap (truth_by v) (fold-True (on_terms_step g));
      at_false = λ h. ap (truth_by v) (fold-False (on_terms_step g));
      at_atom = λ r args h. ap (truth_by v) (fold-Atom (on_terms_step g) r args) ∙ at_args r (map g args) args (values_same args (subst (All Same) (form_terms-Atom r args) h));
      at_equal = λ s t h.
          let k = subst (All Same) (form_terms-Equal s t) h in
          ap (truth_by v) (fold-Equal (on_terms_step g) s t) ∙ at_sides (g s) (g t) s t (All-head Same s (t ∷ []) k) (All-head Same t [] (All-tail Same s (t ∷ []) k));
      at_not = λ a ih h. ap (truth_by v) (fold-Not (on_terms_step g) a) ∙ at_negation (on_terms g a) a (ih (subst (All Same) (form_terms-Not a) h));
      at_chain = λ j all ih h. ap (truth_by v) (on_terms-chain g j all) ∙ truths_all (map (on_terms g) all) all j (truths_same all ih (subst (All Same) (form_terms-chain j all) h));
      at_implies = λ a b ih ih' h.
          let k = subst (All Same) (form_terms-Implies a b) h in
          ap (truth_by v) (fold-Implies (on_terms_step g) a b) ∙ at_implication (on_terms g a) (on_terms g b) a b (ih (All-left Same (form_terms a) (form_terms b) k)) (ih' (All-right Same (form_terms a) (form_terms b) k));
    }

  -- each listed symbol has the value of its term
  abbrev pub ReadsInputs : Inputs → Type 0
  ReadsInputs inputs = All (λ b. (args : List A) → v.sym b.0 args ≡ value_of v b.1) inputs

  module _ (inputs : Inputs) (reads : ReadsInputs inputs) where
    at_symbol : (f : SymId) (args : List TermTree) (o : Option TermTree) → listed_term inputs f ≡ o → value_of v (unwrap_or o (application f args)) ≡ v.sym f (map (value_of v) args)
    at_symbol f args None e = fold-App (value_step v) nowhere f args
    at_symbol f args (Some t) e = sym (listed_entry (λ g u. (xs : List A) → v.sym g xs ≡ value_of v u) inputs f t e reads (map (value_of v) args))

    args_same : (args : List TermTree) → All (λ t. value_of v (with_inputs inputs t) ≡ value_of v t) args → map (value_of v) (map (with_inputs inputs) args) ≡ map (value_of v) args
    args_same args h = values_same (with_inputs inputs) args h

    pub with_inputs-value : (t : TermTree) → value_of v (with_inputs inputs t) ≡ value_of v t
    with_inputs-value = by_term_cases (λ t. value_of v (with_inputs inputs t) ≡ value_of v t)
        (λ p x. ap (value_of v) (fold-Var (with_inputs_step inputs) p x) ∙ (fold-Var (value_step v) nowhere x ∙ sym (fold-Var (value_step v) p x)))
        (λ p f args h.
        ap (value_of v) (fold-App (with_inputs_step inputs) p f args)
        ∙ (at_symbol f (map (with_inputs inputs) args) (listed_term inputs f) refl ∙ (ap (v.sym f) (args_same args h) ∙ sym (fold-App (value_step v) p f args))))

    -- input symbols replaced by terms of their values
    pub put_inputs-truth : (f : FormTree) → truth_by v (form_with_inputs inputs f) ≡ truth_by v f
    put_inputs-truth f = on_terms-truth (with_inputs inputs) f (λ k d lt. with_inputs-value _)

  -- values and truth don't look at places
  pub value-bare : (t : TermTree) → value_of v (bare t) ≡ value_of v t
  value-bare = fold-bare {A = A} (value_step v) (λ p x. refl) (λ p f xs. refl)
