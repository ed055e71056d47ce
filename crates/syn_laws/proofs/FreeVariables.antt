-- Only the free variables count: where two environments read them alike, evaluation gives the same, and so does truth.
use Rattle.std.proofs.Common.{◌≡◌, ◌⊎◌, ◌↔◌, inl, inr, ℕ, Bool, true, false, ◌&&◌, List, [], ◌∷◌, All, Contains, get_or, map, nat_eq, if◌then◌else◌, refl, sym, ap, ap₂, subst, ◌∙◌, true≢false, arith}
use Rattle.std.specs.List.{AllByRecursion, flat_map}
use Rattle.std.proofs.lemmas.Bool.Decides.{nat_tests}
use Rattle.std.proofs.lemmas.List.Elements.{All-contains, All-head, All-nil, All-tail, Contains-get_or}
use Rattle.syn_term.specs.declared.sorts.SymId.{SymId}
use Rattle.syn_term.specs.declared.sorts.Var.{Var}
use Rattle.syn_term.specs.declared.term.Place.{Place}
use Rattle.syn_term.specs.declared.term.Node.TheVariants as node
use Rattle.syn_term.specs.declared.term.Node.TheViews as node_view
use Rattle.syn_term.specs.Terms.{TermTree}
use Rattle.syn_form.specs.declared.trees.Binder.{Binder}
use Rattle.syn_form.specs.declared.trees.QForm.TheViews as qview
use Rattle.syn_form.specs.Quantified.{free_vars, free_vars_step, without}
use Rattle.syn_form.specs.Sorts.{same_sort}
use Rattle.syn_form.specs.Substitutions.{same_var}
use Rattle.syn_form.specs.Trees.{FormTree, OutTree, QFormTree, all_of, form_terms, form_vars, out_terms, out_vars, term_vars}
use Rattle.syn_form.proofs.Lists.{Contains-cons_cases, Contains-head, Contains-tail}
use Rattle.syn_form.proofs.Owned.{All-left, All-right}
use Rattle.syn_form.proofs.QForms.{by_qform_cases, qfold-All, qfold-And, qfold-Atom, qfold-Equal, qfold-Exists, qfold-Implies, qfold-Not, qfold-Or}
use Rattle.syn_form.proofs.TermNodes.{by_term_cases}
use Rattle.syn_value.specs.declared.tree.ValueTree.{ValueTree}
use Rattle.syn_value.specs.Values.{OfSort}
use Rattle.syn_model.specs.Calls.{Meaning, reading_at}
use Rattle.syn_model.specs.Evaluation.{Environment, Reading, evaluate_form, evaluate_out, evaluate_term, free, on_all}
use Rattle.syn_model.specs.Truth.{HaveOneValue, IsTrueAtom, IsTrueIn, read_as}
use Rattle.syn_model.proofs.EvaluationEquations.{evaluate_term-App, evaluate_term-Var}
use Rattle.syn_model.proofs.Over.{all_of_pieces, over_app, over_var}
use Rattle.syn_model.proofs.TruthEquations.{true-All, true-And, true-Atom, true-Equal, true-Exists, true-False, true-Implies, true-Not, true-Or, true-True}
use Rattle.syn_laws.proofs.Changing.{changes_none, form_alike, out_alike, out_changes_none}

-- both environments read the variable as one value
abbrev pub AgreeAt : Environment → Environment → Var → Type 0
AgreeAt env also v = env v.number ≡ also v.number

-- and each of these variables
abbrev pub AgreeOn : Environment → Environment → List Var → Type 0
AgreeOn env also = All (AgreeAt env also)

same_items : {X Y : Type 0} (f g : X → Y) (P : X → Type 0) (xs : List X) → All (λ x. P x → f x ≡ g x) xs → All P xs → map f xs ≡ map g xs
same_items f g P [] same h = refl
same_items f g P (x ∷ xs) same h =
    ap₂ (λ z zs. z ∷ zs) (All-head (λ x. P x → f x ≡ g x) x xs same (All-head P x xs h)) (same_items f g P xs (All-tail (λ x. P x → f x ≡ g x) x xs same) (All-tail P x xs h))

module _ (reading : Reading) (env also : Environment) where
  abbrev TermAgrees : TermTree → Type 0
  TermAgrees t = AgreeOn env also (term_vars t) → evaluate_term reading env t ≡ evaluate_term reading also t

  variable : (p : Place) (v : Var) → TermAgrees (node.Var p v)
  variable p v h =
      evaluate_term-Var reading env p v ∙ (ap (λ (w : ValueTree). free w) ((over_var (AgreeAt env also) (node.Var p v) p v refl).1 h) ∙ sym (evaluate_term-Var reading also p v))

  applied : (p : Place) (f : SymId) (args : List TermTree) → All TermAgrees args → TermAgrees (node_view.App p f args)
  applied p f args same h =
      evaluate_term-App reading env p f args
      ∙ (ap (on_all (reading.value f)) (same_items (evaluate_term reading env) (evaluate_term reading also) (λ t. AgreeOn env also (term_vars t)) args same ((over_app (AgreeAt env also) (node_view.App p f args) p f args args refl refl).1 h))
      ∙ sym (evaluate_term-App reading also p f args))

  -- a term has one value where the environments agree on its variables
  pub term_agrees : (t : TermTree) → AgreeOn env also (term_vars t) → evaluate_term reading env t ≡ evaluate_term reading also t
  term_agrees = by_term_cases TermAgrees variable applied

  terms_agree : (ts : List TermTree) → AgreeOn env also (flat_map term_vars ts) → All (λ t. evaluate_term reading env t ≡ evaluate_term reading also t) ts
  terms_agree ts h k d lt = term_agrees (get_or ts k d) ((all_of_pieces (AgreeAt env also) term_vars ts).1 h k d lt)

  -- a formula one truth value
  pub form_agrees : (f : FormTree) → AgreeOn env also (form_vars f) → evaluate_form reading env f ≡ evaluate_form reading also f
  form_agrees f h = form_alike reading env also (λ g. g) (λ t. t) changes_none f (terms_agree (form_terms f) h)

  -- and an output one value
  pub out_agrees : (o : OutTree) → AgreeOn env also (out_vars o) → evaluate_out reading env o ≡ evaluate_out reading also o
  out_agrees o h = out_alike reading env also (λ g. g) (λ t. t) changes_none (λ p. p) out_changes_none o (terms_agree (out_terms o) h)

-- another variable is left
left_without : (v : Var) (xs : List Var) (x : Var) → same_var v x ≡ false → Contains xs x → Contains (without v xs) x
left_without v [] x other c = c
left_without v (w ∷ ws) x other c = by (same_var v w) refl (Contains-cons_cases w ws x c) (left_without v ws x other)
  where
    by : (b : Bool) → same_var v w ≡ b → (w ≡ x) ⊎ Contains ws x → (Contains ws x → Contains (without v ws) x) → Contains (if b then without v ws else w ∷ without v ws) x
    by true e (inl is) k = absurd (true≢false (sym e ∙ (ap (same_var v) is ∙ other)))
    by true e (inr c) k = k c
    by false e (inl is) k = subst (Contains (w ∷ without v ws)) is (Contains-head w (without v ws))
    by false e (inr c) k = Contains-tail w (without v ws) x (k c)

-- below a quantifier its variable is read as one value, and the others as before
agree_below : (env also : Environment) (b : Var) (xs : List Var) (v : ValueTree) → AgreeOn env also (without b xs) → AgreeOn (read_as env b.number v) (read_as also b.number v) xs
agree_below env also b xs v h k d lt = by (get_or xs k d) (Contains-get_or xs k d lt) (nat_eq (get_or xs k d).number b.number) refl
  where
    by : (x : Var) → Contains xs x → (t : Bool) → nat_eq x.number b.number ≡ t → AgreeAt (read_as env b.number v) (read_as also b.number v) x
    by x c true e = ap (λ t. if t then v else env x.number) e ∙ sym (ap (λ t. if t then v else also x.number) e)
    by x c false e =
        let apart : nat_eq b.number x.number ≡ false = grind (arith, nat_tests) in
        let other : same_var b x ≡ false = ap (λ t. t && same_sort b.sort x.sort) apart in
        ap (λ t. if t then v else env x.number) e ∙ (All-contains (AgreeAt env also) (without b xs) x h (left_without b xs x other c) ∙ sym (ap (λ t. if t then v else also x.number) e))

-- agreement goes both ways
agree_back : (env also : Environment) (xs : List Var) → AgreeOn env also xs → AgreeOn also env xs
agree_back env also xs h k d lt = sym (h k d lt)

carried : (A B C D : Type 0) → A ≡ B → C ≡ D → (B → D) → A → C
carried A B C D e h f a = subst (λ (Z : Type 0). Z) (sym h) (f (subst (λ (Z : Type 0). Z) e a))

module _ (m : Meaning) (inputs : List ValueTree) where
  atom_same : (env also : Environment) (r : SymId) (args : List TermTree) → AgreeOn env also (flat_map term_vars args) → IsTrueAtom m inputs env r args → IsTrueAtom m inputs also r args
  atom_same env also r args h a = (a.0, (a.1.0, sym (ap (on_all ((reading_at m a.0 inputs).truth r)) (values a.0)) ∙ a.1.1))
    where
      values : (n : ℕ) → map (evaluate_term (reading_at m n inputs) env) args ≡ map (evaluate_term (reading_at m n inputs) also) args
      values n = same_items (evaluate_term (reading_at m n inputs) env) (evaluate_term (reading_at m n inputs) also) (λ t. AgreeOn env also (term_vars t)) args (λ k d lt. term_agrees (reading_at m n inputs) env also (get_or args k d)) ((all_of_pieces (AgreeAt env also) term_vars args).1 h)

  equal_same : (env also : Environment) (s t : TermTree) → AgreeOn env also (term_vars s) → AgreeOn env also (term_vars t) → HaveOneValue m inputs env s t → HaveOneValue m inputs also s t
  equal_same env also s t h k a = (
    a.0,
    a.1,
    (a.2.0, sym (term_agrees (reading_at m a.0 inputs) env also s h) ∙ a.2.1),
    (a.3.0, sym (term_agrees (reading_at m a.0 inputs) env also t k) ∙ a.3.1),
  )

  -- the formula is true in one environment where it is in the other, if they agree on its free variables
  abbrev StaysTrue : QFormTree → Type 0
  StaysTrue f = (env also : Environment) → AgreeOn env also (free_vars f) → IsTrueIn m inputs env f → IsTrueIn m inputs also f

  back : (a : QFormTree) → StaysTrue a → (env also : Environment) → AgreeOn env also (free_vars a) → IsTrueIn m inputs also a → IsTrueIn m inputs env a
  back a stays env also h = stays also env (agree_back env also (free_vars a) h)

  each_stays : (all : List QFormTree) (env also : Environment) → All StaysTrue all → AgreeOn env also (all_of (map free_vars all)) → AllByRecursion (λ a. IsTrueIn m inputs env a) all → AllByRecursion (λ a. IsTrueIn m inputs also a) all
  each_stays [] env also stays h x = tt
  each_stays (a ∷ all) env also stays h x = (
    All-head StaysTrue a all stays env also (All-left (AgreeAt env also) (free_vars a) (all_of (map free_vars all)) h) x.0,
    each_stays all env also (All-tail StaysTrue a all stays) (All-right (AgreeAt env also) (free_vars a) (all_of (map free_vars all)) h) x.1,
  )

  none_stays : (all : List QFormTree) (env also : Environment) → All StaysTrue all → AgreeOn env also (all_of (map free_vars all)) → AllByRecursion (λ a. IsTrueIn m inputs env a → ⊥) all → AllByRecursion (λ a. IsTrueIn m inputs also a → ⊥) all
  none_stays [] env also stays h x = tt
  none_stays (a ∷ all) env also stays h x = (
    (λ y. x.0 (back a (All-head StaysTrue a all stays) env also (All-left (AgreeAt env also) (free_vars a) (all_of (map free_vars all)) h) y)),
    none_stays all env also (All-tail StaysTrue a all stays) (All-right (AgreeAt env also) (free_vars a) (all_of (map free_vars all)) h) x.1,
  )

  abbrev ForAll : Environment → Binder → QFormTree → Type 0
  ForAll env b a = (v : ValueTree) → OfSort m.table b.var.sort v → IsTrueIn m inputs (read_as env b.var.number v) a

  abbrev ForNone : Environment → Binder → QFormTree → Type 0
  ForNone env b a = (v : ValueTree) → OfSort m.table b.var.sort v → IsTrueIn m inputs (read_as env b.var.number v) a → ⊥

  stays_true : (f : QFormTree) → StaysTrue f
  stays_true = by_qform_cases StaysTrue (record {
    at_true = λ env also h. carried _ _ _ _ (true-True m inputs env) (true-True m inputs also) (λ x. x);
    at_false = λ env also h. carried _ _ _ _ (true-False m inputs env) (true-False m inputs also) (λ x. x);
    at_atom = λ r args env also h. carried _ _ _ _ (true-Atom m inputs env r args) (true-Atom m inputs also r args) (atom_same env also r args (subst (AgreeOn env also) (qfold-Atom free_vars_step r args) h));
    at_equal = λ s t env also h.
        let k = subst (AgreeOn env also) (qfold-Equal free_vars_step s t) h in
        carried _ _ _ _ (true-Equal m inputs env s t) (true-Equal m inputs also s t) (equal_same env also s t (All-left (AgreeAt env also) (term_vars s) (term_vars t) k) (All-right (AgreeAt env also) (term_vars s) (term_vars t) k));
    at_not = λ a stays env also h. carried _ _ _ _ (true-Not m inputs env a) (true-Not m inputs also a) (λ x y. x (back a stays env also (subst (AgreeOn env also) (qfold-Not free_vars_step a) h) y));
    at_and = λ all stays env also h. carried _ _ _ _ (true-And m inputs env all) (true-And m inputs also all) (each_stays all env also stays (subst (AgreeOn env also) (qfold-And free_vars_step all) h));
    at_or = λ all stays env also h.
        let k = agree_back env also (all_of (map free_vars all)) (subst (AgreeOn env also) (qfold-Or free_vars_step all) h) in
        carried _ _ _ _ (true-Or m inputs env all) (true-Or m inputs also all) (λ x y. x (none_stays all also env stays k y));
    at_implies = λ a b first second env also h.
        let k = subst (AgreeOn env also) (qfold-Implies free_vars_step a b) h in
        carried _ _ _ _ (true-Implies m inputs env a b) (true-Implies m inputs also a b)
        (λ x y z. x (back a first env also (All-left (AgreeAt env also) (free_vars a) (free_vars b) k) y) (λ w. z (second env also (All-right (AgreeAt env also) (free_vars a) (free_vars b) k) w)));
    at_all = λ b a stays env also h.
        let k = subst (AgreeOn env also) (qfold-All free_vars_step b a) h in
        carried (IsTrueIn m inputs env (qview.All b a)) (ForAll env b a) (IsTrueIn m inputs also (qview.All b a)) (ForAll also b a) (true-All m inputs env b a) (true-All m inputs also b a)
        (λ x v of. stays (read_as env b.var.number v) (read_as also b.var.number v) (agree_below env also b.var (free_vars a) v k) (x v of));
    at_exists = λ b a stays env also h.
        let k = subst (AgreeOn env also) (qfold-Exists free_vars_step b a) h in
        carried (IsTrueIn m inputs env (qview.Exists b a)) (ForNone env b a → ⊥) (IsTrueIn m inputs also (qview.Exists b a)) (ForNone also b a → ⊥) (true-Exists m inputs env b a) (true-Exists m inputs also b a)
        (λ x y. x (λ v of z. y v of (stays (read_as env b.var.number v) (read_as also b.var.number v) (agree_below env also b.var (free_vars a) v k) z)));
  })

  -- the formula is true in one environment exactly where it is in the other
  pub truth_agrees : (f : QFormTree) (env also : Environment) → AgreeOn env also (free_vars f) → IsTrueIn m inputs env f ↔ IsTrueIn m inputs also f
  truth_agrees f env also h = (stays_true f env also h, back f (stays_true f) env also h)

  -- so the truth of a formula without free variables is one in all environments
  pub closed_truth : (f : QFormTree) → free_vars f ≡ [] → (env also : Environment) → IsTrueIn m inputs env f ↔ IsTrueIn m inputs also f
  closed_truth f closed env also = truth_agrees f env also (subst (AgreeOn env also) (sym closed) (All-nil (AgreeAt env also)))
