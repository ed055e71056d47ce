-- A tree with a substitution applied gives, and is true, where the tree does in the environment that reads each variable as the
-- value of its term.
use Rattle.std.proofs.Common.{◌≡◌, ◌↔◌, ℕ, true, List, [], ◌∷◌, All, Option, map, get_or, refl, sym, ap, subst, ◌∙◌}
use Rattle.std.specs.List.{AllByRecursion, flat_map}
use Rattle.std.proofs.lemmas.List.Elements.{All-head, All-tail}
use Rattle.syn_term.specs.declared.sorts.SymId.{SymId}
use Rattle.syn_term.specs.declared.sorts.Var.{Var}
use Rattle.syn_term.specs.declared.term.Place.{Place}
use Rattle.syn_term.specs.declared.term.Node.TheVariants as node
use Rattle.syn_term.specs.declared.term.Node.TheViews as node_view
use Rattle.syn_term.specs.Terms.{TermTree, nowhere}
use Rattle.syn_term.proofs.Trees.{fold-App, fold-Var}
use Rattle.syn_form.specs.declared.trees.Form.TheVariants as form
use Rattle.syn_form.specs.declared.trees.Form.TheViews as form_view
use Rattle.syn_form.specs.declared.trees.QForm.TheVariants as qform
use Rattle.syn_form.specs.declared.trees.QForm.TheViews as qview
use Rattle.syn_form.specs.Quantified.{as_qform, as_qform_step}
use Rattle.syn_form.specs.Substitutions.{Substitution, image, substituted, substituted_form, substituted_form_step, substituted_step}
use Rattle.syn_form.specs.Trees.{FormTree, QFormTree, all_of, form_terms, form_vars, term_vars}
use Rattle.syn_form.proofs.Equations.{fold-And, fold-Atom, fold-Equal, fold-False, fold-Implies, fold-Not, fold-Or, fold-True, form_terms-And, form_terms-Atom, form_terms-Equal, form_terms-Implies, form_terms-Not, form_terms-Or}
use Rattle.syn_form.proofs.Induction.{by_forms}
use Rattle.syn_form.proofs.Owned.{All-left, All-right}
use Rattle.syn_form.proofs.TermNodes.{by_term_cases}
use Rattle.syn_value.specs.declared.tree.ValueTree.{ValueTree}
use Rattle.syn_model.specs.Calls.{Meaning, reading_at}
use Rattle.syn_model.specs.Evaluation.{Counted, Environment, evaluate_term, on_all}
use Rattle.syn_model.specs.Truth.{HaveOneValue, IsTrueAtom, IsTrueIn}
use Rattle.syn_model.proofs.DeeperCalls.{deeper, term_deeper}
use Rattle.syn_model.proofs.EvaluationEquations.{evaluate_term-App, evaluate_term-Var}
use Rattle.syn_model.proofs.Given.{Rises}
use Rattle.syn_model.proofs.OneOutcome.{have_one_value}
use Rattle.syn_model.proofs.Over.{all_of_pieces, over_app, over_var}
use Rattle.syn_model.proofs.TruthEquations.{true-And, true-Atom, true-Equal, true-False, true-Implies, true-Not, true-Or, true-True}
use Rattle.syn_laws.proofs.Changing.{map_after}
use Rattle.syn_laws.proofs.Renamings.{ReadsThrough, Renames, read_renamed}
use Rattle.syn_laws.proofs.GivenForSome.{GivesForSome, GivesMore, for_some_along, on_all_more, one_for_some}

carried : (A B C D : Type 0) → A ≡ B → C ≡ D → (B ↔ D) → A ↔ C
carried A B C D e h f = ((λ a. subst (λ (Z : Type 0). Z) (sym h) (f.0 (subst (λ (Z : Type 0). Z) e a))), (λ c. subst (λ (Z : Type 0). Z) (sym e) (f.1 (subst (λ (Z : Type 0). Z) h c))))

module _ (m : Meaning) (inputs : List ValueTree) where
  -- what a term is evaluated to, by the bound on the nesting
  abbrev pub term_at : Environment → TermTree → ℕ → Option (Counted ValueTree)
  term_at env t n = evaluate_term (reading_at m n inputs) env t

  -- for some bound on the nesting the term is evaluated to the value
  abbrev pub HasValueIn : Environment → TermTree → ValueTree → Type 0
  HasValueIn env t v = GivesForSome (term_at env t) v

  pub term_rises : (env : Environment) (t : TermTree) → Rises (term_at env t)
  term_rises env t n k = term_deeper m n k inputs env t

  pub value_rises : (f : SymId) (vs : List ValueTree) → Rises (λ n. (reading_at m n inputs).value f vs)
  value_rises f vs n k = (deeper m n k inputs).value f vs

  pub truth_rises : (r : SymId) (vs : List ValueTree) → Rises (λ n. (reading_at m n inputs).truth r vs)
  truth_rises r vs n k = (deeper m n k inputs).truth r vs

  module _ (σ : Substitution) (env also : Environment) where
    -- the term that the variable becomes has the value as which the other environment reads the variable
    abbrev pub IsValueOf : Var → Type 0
    IsValueOf v = HasValueIn env (image σ v) (also v.number)

    -- the changed term and the term have the same values
    abbrev SameValues : TermTree → Type 0
    SameValues t = GivesMore (term_at env (substituted σ t)) (term_at also t) × GivesMore (term_at also t) (term_at env (substituted σ t))

    abbrev TermHolds : TermTree → Type 0
    TermHolds t = All IsValueOf (term_vars t) → SameValues t

    variable : (p : Place) (v : Var) → TermHolds (node.Var p v)
    variable p v h = (
      (λ w g.
          let is : also v.number ≡ w = one_for_some (term_at env (image σ v)) (term_rises env (image σ v)) (also v.number) w here (for_some_along (term_at env (substituted σ (node.Var p v))) (term_at env (image σ v)) w becomes g) in
          subst (λ u. HasValueIn also (node.Var p v) u) is (0, (0, evaluate_term-Var (reading_at m 0 inputs) also p v))),
      (λ w g.
          let is : also v.number ≡ w = one_for_some (term_at also (node.Var p v)) (term_rises also (node.Var p v)) (also v.number) w (0, (0, evaluate_term-Var (reading_at m 0 inputs) also p v)) g in
          subst (λ u. HasValueIn env (substituted σ (node.Var p v)) u) is (for_some_along (term_at env (image σ v)) (term_at env (substituted σ (node.Var p v))) (also v.number) (λ n. sym (becomes n)) here)),
    )
      where
        here : HasValueIn env (image σ v) (also v.number)
        here = (over_var IsValueOf (node.Var p v) p v refl).1 h

        becomes : (n : ℕ) → term_at env (substituted σ (node.Var p v)) n ≡ term_at env (image σ v) n
        becomes n = ap (λ t. term_at env t n) (fold-Var (substituted_step σ) p v)

    -- the values of the arguments, before and after
    abbrev changed_args : List TermTree → ℕ → List (Option (Counted ValueTree))
    changed_args args n = map (λ t. term_at env (substituted σ t) n) args

    abbrev own_args : List TermTree → ℕ → List (Option (Counted ValueTree))
    own_args args n = map (λ t. term_at also t n) args

    changed_app : (p : Place) (f : SymId) (args : List TermTree) (n : ℕ) → term_at env (substituted σ (node_view.App p f args)) n ≡ on_all ((reading_at m n inputs).value f) (changed_args args n)
    changed_app p f args n =
        ap (λ t. term_at env t n) (fold-App (substituted_step σ) p f args)
        ∙ (evaluate_term-App (reading_at m n inputs) env nowhere f (map (substituted σ) args)
        ∙ ap (on_all ((reading_at m n inputs).value f)) (map_after (substituted σ) (evaluate_term (reading_at m n inputs) env) args))

    first_held : (args : List TermTree) → All SameValues args → All (λ t. GivesMore (term_at env (substituted σ t)) (term_at also t)) args
    first_held args h k d lt = (h k d lt).0

    second_held : (args : List TermTree) → All SameValues args → All (λ t. GivesMore (term_at also t) (term_at env (substituted σ t))) args
    second_held args h k d lt = (h k d lt).1

    on_args : {B : Type 0} (give : ℕ → List ValueTree → Option (Counted B)) → ((vs : List ValueTree) → Rises (λ n. give n vs)) → (args : List TermTree) → All SameValues args → (b : B) → GivesForSome (λ n. on_all (give n) (changed_args args n)) b ↔ GivesForSome (λ n. on_all (give n) (own_args args n)) b
    on_args give rises args same b = (
      on_all_more give rises (λ t. term_at env (substituted σ t)) (λ t. term_at also t) (λ t. term_rises also t) args (first_held args same) b,
      on_all_more give rises (λ t. term_at also t) (λ t. term_at env (substituted σ t)) (λ t. term_rises env (substituted σ t)) args (second_held args same) b,
    )

    held_args : (args : List TermTree) → All TermHolds args → All (λ t. All IsValueOf (term_vars t)) args → All SameValues args
    held_args args holds h k d lt = holds k d lt (h k d lt)

    applied : (p : Place) (f : SymId) (args : List TermTree) → All TermHolds args → TermHolds (node_view.App p f args)
    applied p f args holds h = (
      (λ w g. for_some_along (λ n. on_all ((reading_at m n inputs).value f) (own_args args n)) (term_at also (node_view.App p f args)) w (λ n. sym (own n)) ((same w).0 (for_some_along (term_at env (substituted σ (node_view.App p f args))) (λ n. on_all ((reading_at m n inputs).value f) (changed_args args n)) w (changed_app p f args) g))),
      (λ w g. for_some_along (λ n. on_all ((reading_at m n inputs).value f) (changed_args args n)) (term_at env (substituted σ (node_view.App p f args))) w (λ n. sym (changed_app p f args n)) ((same w).1 (for_some_along (term_at also (node_view.App p f args)) (λ n. on_all ((reading_at m n inputs).value f) (own_args args n)) w own g))),
    )
      where
        own : (n : ℕ) → term_at also (node_view.App p f args) n ≡ on_all ((reading_at m n inputs).value f) (own_args args n)
        own n = evaluate_term-App (reading_at m n inputs) also p f args

        same : (w : ValueTree) → GivesForSome (λ n. on_all ((reading_at m n inputs).value f) (changed_args args n)) w ↔ GivesForSome (λ n. on_all ((reading_at m n inputs).value f) (own_args args n)) w
        same w = on_args (λ n. (reading_at m n inputs).value f) (value_rises f) args (held_args args holds ((over_app IsValueOf (node_view.App p f args) p f args args refl refl).1 h)) w

    same_values : (t : TermTree) → All IsValueOf (term_vars t) → SameValues t
    same_values = by_term_cases TermHolds variable applied

    -- a term with the substitution applied has a value exactly where the term has it in the other environment
    pub substituted_value : (t : TermTree) → All IsValueOf (term_vars t) → (w : ValueTree) → HasValueIn env (substituted σ t) w ↔ HasValueIn also t w
    substituted_value t h w = let s = same_values t h in (s.0 w, s.1 w)

    terms_same : (ts : List TermTree) → All IsValueOf (flat_map term_vars ts) → All SameValues ts
    terms_same ts h k d lt = same_values (get_or ts k d) ((all_of_pieces IsValueOf term_vars ts).1 h k d lt)

    abbrev FormHolds : FormTree → Type 0
    FormHolds f = All SameValues (form_terms f) → IsTrueIn m inputs env (as_qform (substituted_form σ f)) ↔ IsTrueIn m inputs also (as_qform f)

    -- the changed formula, from what it becomes, case by case
    step : (f : FormTree) (changed : FormTree) (q own : QFormTree) (C D : Type 0) → substituted_form σ f ≡ changed → as_qform changed ≡ q → as_qform f ≡ own → IsTrueIn m inputs env q ≡ C → IsTrueIn m inputs also own ≡ D → C ↔ D → IsTrueIn m inputs env (as_qform (substituted_form σ f)) ↔ IsTrueIn m inputs also (as_qform f)
    step f changed q own C D becomes is own_is first second both =
        carried (IsTrueIn m inputs env (as_qform (substituted_form σ f))) C (IsTrueIn m inputs also (as_qform f)) D
        (ap (λ g. IsTrueIn m inputs env (as_qform g)) becomes ∙ (ap (λ g. IsTrueIn m inputs env g) is ∙ first)) (ap (λ g. IsTrueIn m inputs also g) own_is ∙ second) both

    atom_same : (r : SymId) (args : List TermTree) → All SameValues args → IsTrueAtom m inputs env r (map (substituted σ) args) ↔ IsTrueAtom m inputs also r args
    atom_same r args same =
        let both = on_args (λ n. (reading_at m n inputs).truth r) (truth_rises r) args same true in (
          (λ g. both.0 (for_some_along (λ n. on_all ((reading_at m n inputs).truth r) (map (evaluate_term (reading_at m n inputs) env) (map (substituted σ) args))) (λ n. on_all ((reading_at m n inputs).truth r) (changed_args args n)) true values g)),
          (λ g. for_some_along (λ n. on_all ((reading_at m n inputs).truth r) (changed_args args n)) (λ n. on_all ((reading_at m n inputs).truth r) (map (evaluate_term (reading_at m n inputs) env) (map (substituted σ) args))) true (λ n. sym (values n)) (both.1 g)),
        )
      where
        values : (n : ℕ) → on_all ((reading_at m n inputs).truth r) (map (evaluate_term (reading_at m n inputs) env) (map (substituted σ) args)) ≡ on_all ((reading_at m n inputs).truth r) (changed_args args n)
        values n = ap (on_all ((reading_at m n inputs).truth r)) (map_after (substituted σ) (evaluate_term (reading_at m n inputs) env) args)

    equal_same : (s t : TermTree) → SameValues s → SameValues t → HaveOneValue m inputs env (substituted σ s) (substituted σ t) ↔ HaveOneValue m inputs also s t
    equal_same s t h k = (
      (λ a.
          let x = h.0 a.1 (a.0, a.2) in
          let y = k.0 a.1 (a.0, a.3) in
          have_one_value m inputs also s t a.1 x.0 y.0 x.1 y.1),
      (λ a.
          let x = h.1 a.1 (a.0, a.2) in
          let y = k.1 a.1 (a.0, a.3) in
          have_one_value m inputs env (substituted σ s) (substituted σ t) a.1 x.0 y.0 x.1 y.1),
    )

    abbrev pub TrueChanged : FormTree → Type 0
    TrueChanged f = IsTrueIn m inputs env (as_qform (substituted_form σ f))

    abbrev pub TrueOwn : FormTree → Type 0
    TrueOwn f = IsTrueIn m inputs also (as_qform f)

    each_same : (all : List FormTree) → All FormHolds all → All SameValues (all_of (map form_terms all)) → AllByRecursion (λ a. IsTrueIn m inputs env a) (map as_qform (map (substituted_form σ) all)) ↔ AllByRecursion (λ a. IsTrueIn m inputs also a) (map as_qform all)
    each_same [] holds h = ((λ x. x), (λ x. x))
    each_same (f ∷ fs) holds h =
        let one = All-head FormHolds f fs holds (All-left SameValues (form_terms f) (all_of (map form_terms fs)) h) in
        let rest = each_same fs (All-tail FormHolds f fs holds) (All-right SameValues (form_terms f) (all_of (map form_terms fs)) h) in
        ((λ x. (one.0 x.0, rest.0 x.1)), (λ x. (one.1 x.0, rest.1 x.1)))

    none_same : (all : List FormTree) → All FormHolds all → All SameValues (all_of (map form_terms all)) → AllByRecursion (λ a. IsTrueIn m inputs env a → ⊥) (map as_qform (map (substituted_form σ) all)) ↔ AllByRecursion (λ a. IsTrueIn m inputs also a → ⊥) (map as_qform all)
    none_same [] holds h = ((λ x. x), (λ x. x))
    none_same (f ∷ fs) holds h =
        let one = All-head FormHolds f fs holds (All-left SameValues (form_terms f) (all_of (map form_terms fs)) h) in
        let rest = none_same fs (All-tail FormHolds f fs holds) (All-right SameValues (form_terms f) (all_of (map form_terms fs)) h) in
        ((λ x. ((λ y. x.0 (one.1 y)), rest.0 x.1)), (λ x. ((λ y. x.0 (one.0 y)), rest.1 x.1)))

    at_atom : (r : SymId) (args : List TermTree) → FormHolds (form.Atom r args)
    at_atom r args h =
        step (form.Atom r args) (form.Atom r (map (substituted σ) args)) (qform.Atom r (map (substituted σ) args)) (qform.Atom r args) (IsTrueAtom m inputs env r (map (substituted σ) args)) (IsTrueAtom m inputs also r args)
        (fold-Atom (substituted_form_step σ) r args) (fold-Atom as_qform_step r (map (substituted σ) args)) (fold-Atom as_qform_step r args)
        (true-Atom m inputs env r (map (substituted σ) args)) (true-Atom m inputs also r args) (atom_same r args (subst (All SameValues) (form_terms-Atom r args) h))

    at_equal : (s t : TermTree) → FormHolds (form.Equal s t)
    at_equal s t h =
        let k = subst (All SameValues) (form_terms-Equal s t) h in
        step (form.Equal s t) (form.Equal (substituted σ s) (substituted σ t)) (qform.Equal (substituted σ s) (substituted σ t)) (qform.Equal s t) (HaveOneValue m inputs env (substituted σ s) (substituted σ t)) (HaveOneValue m inputs also s t)
        (fold-Equal (substituted_form_step σ) s t) (fold-Equal as_qform_step (substituted σ s) (substituted σ t)) (fold-Equal as_qform_step s t)
        (true-Equal m inputs env (substituted σ s) (substituted σ t)) (true-Equal m inputs also s t) (equal_same s t (All-head SameValues s (t ∷ []) k) (All-head SameValues t [] (All-tail SameValues s (t ∷ []) k)))

    at_not : (a : FormTree) → FormHolds a → FormHolds (form_view.Not a)
    at_not a holds h =
        let both = holds (subst (All SameValues) (form_terms-Not a) h) in
        step (form_view.Not a) (form_view.Not (substituted_form σ a)) (qview.Not (as_qform (substituted_form σ a))) (qview.Not (as_qform a)) (TrueChanged a → ⊥) (TrueOwn a → ⊥)
        (fold-Not (substituted_form_step σ) a) (fold-Not as_qform_step (substituted_form σ a)) (fold-Not as_qform_step a)
        (true-Not m inputs env (as_qform (substituted_form σ a))) (true-Not m inputs also (as_qform a)) ((λ x y. x (both.1 y)), (λ x y. x (both.0 y)))

    at_and : (all : List FormTree) → All FormHolds all → FormHolds (form_view.And all)
    at_and all holds h =
        step (form_view.And all) (form_view.And (map (substituted_form σ) all)) (qview.And (map as_qform (map (substituted_form σ) all))) (qview.And (map as_qform all))
        (AllByRecursion (λ a. IsTrueIn m inputs env a) (map as_qform (map (substituted_form σ) all))) (AllByRecursion (λ a. IsTrueIn m inputs also a) (map as_qform all))
        (fold-And (substituted_form_step σ) all) (fold-And as_qform_step (map (substituted_form σ) all)) (fold-And as_qform_step all)
        (true-And m inputs env (map as_qform (map (substituted_form σ) all))) (true-And m inputs also (map as_qform all)) (each_same all holds (subst (All SameValues) (form_terms-And all) h))

    at_or : (all : List FormTree) → All FormHolds all → FormHolds (form_view.Or all)
    at_or all holds h =
        let both = none_same all holds (subst (All SameValues) (form_terms-Or all) h) in
        step (form_view.Or all) (form_view.Or (map (substituted_form σ) all)) (qview.Or (map as_qform (map (substituted_form σ) all))) (qview.Or (map as_qform all))
        (AllByRecursion (λ a. IsTrueIn m inputs env a → ⊥) (map as_qform (map (substituted_form σ) all)) → ⊥) (AllByRecursion (λ a. IsTrueIn m inputs also a → ⊥) (map as_qform all) → ⊥)
        (fold-Or (substituted_form_step σ) all) (fold-Or as_qform_step (map (substituted_form σ) all)) (fold-Or as_qform_step all)
        (true-Or m inputs env (map as_qform (map (substituted_form σ) all))) (true-Or m inputs also (map as_qform all)) ((λ x y. x (both.1 y)), (λ x y. x (both.0 y)))

    at_implies : (a b : FormTree) → FormHolds a → FormHolds b → FormHolds (form_view.Implies a b)
    at_implies a b first second h =
        let k = subst (All SameValues) (form_terms-Implies a b) h in
        let p = first (All-left SameValues (form_terms a) (form_terms b) k) in
        let q = second (All-right SameValues (form_terms a) (form_terms b) k) in
        step (form_view.Implies a b) (form_view.Implies (substituted_form σ a) (substituted_form σ b)) (qview.Implies (as_qform (substituted_form σ a)) (as_qform (substituted_form σ b))) (qview.Implies (as_qform a) (as_qform b))
        (TrueChanged a → (TrueChanged b → ⊥) → ⊥) (TrueOwn a → (TrueOwn b → ⊥) → ⊥)
        (fold-Implies (substituted_form_step σ) a b) (fold-Implies as_qform_step (substituted_form σ a) (substituted_form σ b)) (fold-Implies as_qform_step a b)
        (true-Implies m inputs env (as_qform (substituted_form σ a)) (as_qform (substituted_form σ b))) (true-Implies m inputs also (as_qform a) (as_qform b))
        ((λ x y z. x (p.1 y) (λ w. z (q.0 w))), (λ x y z. x (p.0 y) (λ w. z (q.1 w))))

    at_true : FormHolds form.True
    at_true h = step form.True form.True qform.True qform.True (Unit {0}) (Unit {0}) (fold-True (substituted_form_step σ)) (fold-True as_qform_step) (fold-True as_qform_step) (true-True m inputs env) (true-True m inputs also) ((λ x. x), (λ x. x))

    at_false : FormHolds form.False
    at_false h = step form.False form.False qform.False qform.False ⊥ ⊥ (fold-False (substituted_form_step σ)) (fold-False as_qform_step) (fold-False as_qform_step) (true-False m inputs env) (true-False m inputs also) ((λ x. x), (λ x. x))

    form_holds : (f : FormTree) → FormHolds f
    form_holds = by_forms FormHolds at_true at_false at_atom at_equal at_not at_and at_or at_implies

    -- a formula with the substitution applied is true exactly where the formula is true in the other environment
    pub substituted_truth : (f : FormTree) → All IsValueOf (form_vars f) → IsTrueIn m inputs env (as_qform (substituted_form σ f)) ↔ IsTrueIn m inputs also (as_qform f)
    substituted_truth f h = form_holds f (terms_same (form_terms f) h)

  -- so a renamed formula is true exactly where the formula is in the environment that is read through the renaming
  pub renamed_truth : (to : Var → Var) (σ : Substitution) (env also : Environment) (f : FormTree) → Renames to (form_vars f) σ → ReadsThrough to env also (form_vars f) → IsTrueIn m inputs env (as_qform (substituted_form σ f)) ↔ IsTrueIn m inputs also (as_qform f)
  renamed_truth to σ env also f renames through =
      let read = read_renamed (reading_at m 0 inputs) to σ env also (form_vars f) renames through in
      substituted_truth σ env also f (λ k d lt. (0, (0, read k d lt)))
