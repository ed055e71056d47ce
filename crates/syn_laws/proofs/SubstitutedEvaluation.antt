-- A formula and an output with a substitution applied give, for some bound on the nesting, what they give in the environment that
-- reads each variable as the value of its term.
use Rattle.std.proofs.Common.{◌≡◌, ◌↔◌, ℕ, Bool, true, false, not, List, [], ◌∷◌, ◌++◌, All, Option, map, get_or, if◌then◌else◌, ap, subst, ◌∙◌}
use Rattle.std.specs.List.{flat_map, list_all, list_any}
use Rattle.std.specs.Option.{option_and_then, option_map}
use Rattle.std.proofs.lemmas.List.Elements.{All-cons, All-head, All-nil}
use Rattle.syn_term.specs.declared.sorts.SymId.{SymId}
use Rattle.syn_term.specs.Terms.{TermTree}
use Rattle.syn_form.specs.declared.trees.Form.TheVariants as form
use Rattle.syn_form.specs.declared.trees.Form.TheViews as form_view
use Rattle.syn_form.specs.declared.trees.Out.TheVariants as out
use Rattle.syn_form.specs.declared.trees.Out.TheViews as out_view
use Rattle.syn_form.specs.Substitutions.{Substitution, substituted, substituted_form, substituted_out}
use Rattle.syn_form.specs.Trees.{FormTree, OutTree, all_of, form_terms, form_vars, out_terms, out_vars, term_vars}
use Rattle.syn_form.proofs.Equations.{form_terms-And, form_terms-Atom, form_terms-Equal, form_terms-Implies, form_terms-Not, form_terms-Or, out_terms-Give, out_terms-If}
use Rattle.syn_form.proofs.Induction.{by_forms, by_outs}
use Rattle.syn_form.proofs.Owned.{All-left, All-right}
use Rattle.syn_value.specs.declared.tree.ValueTree.{ValueTree}
use Rattle.syn_model.specs.Calls.{Meaning, reading_at}
use Rattle.syn_model.specs.Evaluation.{Counted, Environment, after, are_same, evaluate_form, evaluate_out, evaluate_term, free, implies, on_all}
use Rattle.syn_model.proofs.DeeperCalls.{form_deeper, out_deeper}
use Rattle.syn_model.proofs.EvaluationEquations.{evaluate_form-And, evaluate_form-Atom, evaluate_form-Equal, evaluate_form-False, evaluate_form-Implies, evaluate_form-Not, evaluate_form-Or, evaluate_form-True, evaluate_out-Give, evaluate_out-If}
use Rattle.syn_model.proofs.Given.{Rises}
use Rattle.syn_model.proofs.KeptReadings.{keeps_same}
use Rattle.syn_model.proofs.Over.{all_of_pieces}
use Rattle.syn_laws.proofs.Changing.{All-each, changes_substituted, map_after, out_changes_substituted}
use Rattle.syn_laws.proofs.GivenForSome.{GivesForSome, GivesSame, changed_same, gives_same_along, on_all_same, on_result, then_same}
use Rattle.syn_laws.proofs.SubstitutedTruth.{IsValueOf, substituted_value, term_at, term_rises, truth_rises}

always_rises : {A : Type 0} (o : Option (Counted A)) → Rises (λ n. o)
always_rises o n k = keeps_same o

gives_itself : {A : Type 0} (at : ℕ → Option (Counted A)) → GivesSame at at
gives_itself at = ((λ a g. g), (λ a g. g))

module _ (m : Meaning) (inputs : List ValueTree) where
  -- what a formula and an output are evaluated to, by the bound on the nesting
  abbrev pub form_at : Environment → FormTree → ℕ → Option (Counted Bool)
  form_at env f n = evaluate_form (reading_at m n inputs) env f

  abbrev pub out_at : Environment → OutTree → ℕ → Option (Counted ValueTree)
  out_at env o n = evaluate_out (reading_at m n inputs) env o

  form_rises : (env : Environment) (f : FormTree) → Rises (form_at env f)
  form_rises env f n k = form_deeper m n k inputs env f

  out_rises : (env : Environment) (o : OutTree) → Rises (out_at env o)
  out_rises env o n k = out_deeper m n k inputs env o

  module _ (σ : Substitution) (env also : Environment) where
    abbrev changed : FormTree → FormTree
    changed f = substituted_form σ f

    abbrev TermSame : TermTree → Type 0
    TermSame t = GivesSame (term_at m inputs env (substituted σ t)) (term_at m inputs also t)

    abbrev FormSame : FormTree → Type 0
    FormSame f = All TermSame (form_terms f) → GivesSame (form_at env (changed f)) (form_at also f)

    on_terms : (give : ℕ → List ValueTree → Option (Counted Bool)) → ((vs : List ValueTree) → Rises (λ n. give n vs)) → (ts : List TermTree) → All TermSame ts → GivesSame (λ n. on_all (give n) (map (λ t. term_at m inputs env (substituted σ t) n) ts)) (λ n. on_all (give n) (map (λ t. term_at m inputs also t n) ts))
    on_terms give rises ts same = on_all_same give rises (λ t. term_at m inputs env (substituted σ t)) (λ t. term_at m inputs also t) (λ t. term_rises m inputs env (substituted σ t)) (λ t. term_rises m inputs also t) ts same

    on_forms : (give : List Bool → Option (Counted Bool)) (fs : List FormTree) → All (λ f. GivesSame (form_at env (changed f)) (form_at also f)) fs → GivesSame (λ n. on_all give (map (λ f. form_at env (changed f) n) fs)) (λ n. on_all give (map (λ f. form_at also f n) fs))
    on_forms give fs same = on_all_same (λ n. give) (λ bs. always_rises (give bs)) (λ f. form_at env (changed f)) (λ f. form_at also f) (λ f. form_rises env (changed f)) (λ f. form_rises also f) fs same

    atom : (r : SymId) (args : List TermTree) → FormSame (form.Atom r args)
    atom r args h =
        gives_same_along (form_at env (changed (form.Atom r args))) (λ n. on_all ((reading_at m n inputs).truth r) (map (λ t. term_at m inputs env (substituted σ t) n) args)) (form_at also (form.Atom r args)) (λ n. on_all ((reading_at m n inputs).truth r) (map (λ t. term_at m inputs also t n) args))
        (λ n. ap (λ f. form_at env f n) ((changes_substituted σ).at_atom r args) ∙ (evaluate_form-Atom (reading_at m n inputs) env r (map (substituted σ) args) ∙ ap (on_all ((reading_at m n inputs).truth r)) (map_after (substituted σ) (evaluate_term (reading_at m n inputs) env) args)))
        (λ n. evaluate_form-Atom (reading_at m n inputs) also r args)
        (on_terms (λ n. (reading_at m n inputs).truth r) (truth_rises m inputs r) args (subst (All TermSame) (form_terms-Atom r args) h))

    equality : (s t : TermTree) → FormSame (form.Equal s t)
    equality s t h =
        gives_same_along (form_at env (changed (form.Equal s t))) (λ n. on_all are_same (map (λ u. term_at m inputs env (substituted σ u) n) (s ∷ t ∷ []))) (form_at also (form.Equal s t)) (λ n. on_all are_same (map (λ u. term_at m inputs also u n) (s ∷ t ∷ [])))
        (λ n. ap (λ f. form_at env f n) ((changes_substituted σ).at_equal s t) ∙ evaluate_form-Equal (reading_at m n inputs) env (substituted σ s) (substituted σ t))
        (λ n. evaluate_form-Equal (reading_at m n inputs) also s t)
        (on_terms (λ n. are_same) (λ vs. always_rises (are_same vs)) (s ∷ t ∷ []) (subst (All TermSame) (form_terms-Equal s t) h))

    negation : (a : FormTree) → FormSame a → FormSame (form_view.Not a)
    negation a same h =
        gives_same_along (form_at env (changed (form_view.Not a))) (λ n. option_map (on_result not) (form_at env (changed a) n)) (form_at also (form_view.Not a)) (λ n. option_map (on_result not) (form_at also a n))
        (λ n. ap (λ f. form_at env f n) ((changes_substituted σ).at_not a) ∙ evaluate_form-Not (reading_at m n inputs) env (changed a))
        (λ n. evaluate_form-Not (reading_at m n inputs) also a)
        (changed_same not (form_at env (changed a)) (form_at also a) (same (subst (All TermSame) (form_terms-Not a) h)))

    members : (fs : List FormTree) → All FormSame fs → All TermSame (all_of (map form_terms fs)) → All (λ f. GivesSame (form_at env (changed f)) (form_at also f)) fs
    members fs same h k d lt = same k d lt (All-each TermSame form_terms fs h k d lt)

    conjunction : (all : List FormTree) → All FormSame all → FormSame (form_view.And all)
    conjunction all same h =
        let give = λ (bs : List Bool). free (list_all (λ b. b) bs) in
        gives_same_along (form_at env (changed (form_view.And all))) (λ n. on_all give (map (λ f. form_at env (changed f) n) all)) (form_at also (form_view.And all)) (λ n. on_all give (map (λ f. form_at also f n) all))
        (λ n. ap (λ f. form_at env f n) ((changes_substituted σ).at_and all) ∙ (evaluate_form-And (reading_at m n inputs) env (map changed all) ∙ ap (on_all give) (map_after changed (evaluate_form (reading_at m n inputs) env) all)))
        (λ n. evaluate_form-And (reading_at m n inputs) also all)
        (on_forms give all (members all same (subst (All TermSame) (form_terms-And all) h)))

    disjunction : (all : List FormTree) → All FormSame all → FormSame (form_view.Or all)
    disjunction all same h =
        let give = λ (bs : List Bool). free (list_any (λ b. b) bs) in
        gives_same_along (form_at env (changed (form_view.Or all))) (λ n. on_all give (map (λ f. form_at env (changed f) n) all)) (form_at also (form_view.Or all)) (λ n. on_all give (map (λ f. form_at also f n) all))
        (λ n. ap (λ f. form_at env f n) ((changes_substituted σ).at_or all) ∙ (evaluate_form-Or (reading_at m n inputs) env (map changed all) ∙ ap (on_all give) (map_after changed (evaluate_form (reading_at m n inputs) env) all)))
        (λ n. evaluate_form-Or (reading_at m n inputs) also all)
        (on_forms give all (members all same (subst (All TermSame) (form_terms-Or all) h)))

    implication : (a b : FormTree) → FormSame a → FormSame b → FormSame (form_view.Implies a b)
    implication a b first second h =
        let k = subst (All TermSame) (form_terms-Implies a b) h in
        let one = first (All-left TermSame (form_terms a) (form_terms b) k) in
        let two = second (All-right TermSame (form_terms a) (form_terms b) k) in
        gives_same_along (form_at env (changed (form_view.Implies a b))) (λ n. on_all implies (map (λ f. form_at env (changed f) n) (a ∷ b ∷ []))) (form_at also (form_view.Implies a b)) (λ n. on_all implies (map (λ f. form_at also f n) (a ∷ b ∷ [])))
        (λ n. ap (λ f. form_at env f n) ((changes_substituted σ).at_implies a b) ∙ evaluate_form-Implies (reading_at m n inputs) env (changed a) (changed b))
        (λ n. evaluate_form-Implies (reading_at m n inputs) also a b)
        (on_forms implies (a ∷ b ∷ []) (pair a b one two))
      where
        pair : (f g : FormTree) → GivesSame (form_at env (changed f)) (form_at also f) → GivesSame (form_at env (changed g)) (form_at also g) → All (λ x. GivesSame (form_at env (changed x)) (form_at also x)) (f ∷ g ∷ [])
        pair f g p q = All-cons (λ x. GivesSame (form_at env (changed x)) (form_at also x)) f (g ∷ []) p (All-cons (λ x. GivesSame (form_at env (changed x)) (form_at also x)) g [] q (All-nil (λ x. GivesSame (form_at env (changed x)) (form_at also x))))

    constant : (f : FormTree) (b : Bool) → ((n : ℕ) → form_at env (changed f) n ≡ free b) → ((n : ℕ) → form_at also f n ≡ free b) → GivesSame (form_at env (changed f)) (form_at also f)
    constant f b e h = gives_same_along (form_at env (changed f)) (λ n. free b) (form_at also f) (λ n. free b) e h (gives_itself (λ n. free b))

    form_same : (f : FormTree) → FormSame f
    form_same = by_forms FormSame
        (λ h. constant form.True true (λ n. ap (λ f. form_at env f n) (changes_substituted σ).at_true ∙ evaluate_form-True (reading_at m n inputs) env) (λ n. evaluate_form-True (reading_at m n inputs) also))
        (λ h. constant form.False false (λ n. ap (λ f. form_at env f n) (changes_substituted σ).at_false ∙ evaluate_form-False (reading_at m n inputs) env) (λ n. evaluate_form-False (reading_at m n inputs) also))
        atom equality negation conjunction disjunction implication

    terms_same : (ts : List TermTree) → All (IsValueOf m inputs σ env also) (flat_map term_vars ts) → All TermSame ts
    terms_same ts h k d lt =
        let values = substituted_value m inputs σ env also (get_or ts k d) ((all_of_pieces (IsValueOf m inputs σ env also) term_vars ts).1 h k d lt) in
        ((λ w. (values w).0), (λ w. (values w).1))

    -- a formula with the substitution applied is evaluated to a truth value exactly where the formula is in the other environment
    pub substituted_truth_value : (f : FormTree) → All (IsValueOf m inputs σ env also) (form_vars f) → (b : Bool) → GivesForSome (form_at env (substituted_form σ f)) b ↔ GivesForSome (form_at also f) b
    substituted_truth_value f h b = let same = form_same f (terms_same (form_terms f) h) in (same.0 b, same.1 b)

    abbrev OutSame : OutTree → Type 0
    OutSame o = All TermSame (out_terms o) → GivesSame (out_at env (substituted_out σ o)) (out_at also o)

    give : (t : TermTree) → OutSame (out.Give t)
    give t h =
        gives_same_along (out_at env (substituted_out σ (out.Give t))) (term_at m inputs env (substituted σ t)) (out_at also (out.Give t)) (term_at m inputs also t)
        (λ n. ap (λ o. out_at env o n) ((out_changes_substituted σ).at_give t) ∙ evaluate_out-Give (reading_at m n inputs) env (substituted σ t))
        (λ n. evaluate_out-Give (reading_at m n inputs) also t) (All-head TermSame t [] (subst (All TermSame) (out_terms-Give t) h))

    -- the arm that the test chooses
    abbrev arm : Environment → OutTree → OutTree → ℕ → Bool → Option (Counted ValueTree)
    arm e u v n b = if b then out_at e u n else out_at e v n

    arm_rises : (e : Environment) (u v : OutTree) (b : Bool) → Rises (λ n. arm e u v n b)
    arm_rises e u v true = out_rises e u
    arm_rises e u v false = out_rises e v

    arm_same : (u v : OutTree) → GivesSame (out_at env (substituted_out σ u)) (out_at also u) → GivesSame (out_at env (substituted_out σ v)) (out_at also v) → (b : Bool) → GivesSame (λ n. arm env (substituted_out σ u) (substituted_out σ v) n b) (λ n. arm also u v n b)
    arm_same u v p q true = p
    arm_same u v p q false = q

    choice : (f : FormTree) (u v : OutTree) → OutSame u → OutSame v → OutSame (out_view.If f u v)
    choice f u v first second h =
        let k = subst (All TermSame) (out_terms-If f u v) h in
        let rest = All-right TermSame (form_terms f) (out_terms u ++ out_terms v) k in
        let test = form_same f (All-left TermSame (form_terms f) (out_terms u ++ out_terms v) k) in
        let arms = arm_same u v (first (All-left TermSame (out_terms u) (out_terms v) rest)) (second (All-right TermSame (out_terms u) (out_terms v) rest)) in
        gives_same_along (out_at env (substituted_out σ (out_view.If f u v))) (λ n. option_and_then (λ c. after c.turns (arm env (substituted_out σ u) (substituted_out σ v) n c.result)) (form_at env (changed f) n)) (out_at also (out_view.If f u v)) (λ n. option_and_then (λ c. after c.turns (arm also u v n c.result)) (form_at also f n))
        (λ n. ap (λ o. out_at env o n) ((out_changes_substituted σ).at_if f u v) ∙ evaluate_out-If (reading_at m n inputs) env (changed f) (substituted_out σ u) (substituted_out σ v))
        (λ n. evaluate_out-If (reading_at m n inputs) also f u v)
        (then_same (form_at env (changed f)) (form_at also f) (arm env (substituted_out σ u) (substituted_out σ v)) (arm also u v) (form_rises env (changed f)) (form_rises also f) (arm_rises env (substituted_out σ u) (substituted_out σ v)) (arm_rises also u v) test arms)

    out_same : (o : OutTree) → OutSame o
    out_same = by_outs OutSame give choice

    -- an output with the substitution applied has a value exactly where the output has it in the other environment
    pub substituted_output : (o : OutTree) → All (IsValueOf m inputs σ env also) (out_vars o) → (w : ValueTree) → GivesForSome (out_at env (substituted_out σ o)) w ↔ GivesForSome (out_at also o) w
    substituted_output o h w = let same = out_same o (terms_same (out_terms o) h) in (same.0 w, same.1 w)
