-- Evaluation step by step: what each case of a term, an output and a formula asks first, and what then.
use Rattle.std.proofs.Common.{◌≡◌, ◌↔◌, ℕ, IsTrue, ◌+◌, Bool, true, false, not, ◌||◌, List, Option, None, Some, Result, map, if◌then◌else◌, refl, sym, ap, subst, ◌∙◌, arith}
use Rattle.std.specs.List.{list_all, list_any}
use Rattle.std.specs.Option.{option_and_then, option_map}
use Rattle.syn_term.specs.declared.sorts.SymId.{SymId}
use Rattle.syn_term.specs.declared.sorts.Var.{Var}
use Rattle.syn_term.specs.declared.term.Place.{Place}
use Rattle.syn_term.specs.declared.term.Node.TheVariants as node
use Rattle.syn_term.specs.declared.term.Node.TheViews as node_view
use Rattle.syn_term.specs.Terms.{TermTree}
use Rattle.syn_form.specs.declared.trees.Form.TheVariants as form
use Rattle.syn_form.specs.declared.trees.Form.TheViews as form_view
use Rattle.syn_form.specs.declared.trees.Out.TheVariants as out
use Rattle.syn_form.specs.declared.trees.Out.TheViews as out_view
use Rattle.syn_form.specs.Trees.{FormTree, OutTree}
use Rattle.syn_value.specs.declared.tree.ValueTree.{ValueTree}
use Rattle.syn_value.specs.Values.{same_value}
use Rattle.syn_value.proofs.SameValues.{same_value-is}
use Rattle.syn_model.specs.Calls.{numbered_values}
use Rattle.syn_model.specs.Evaluation.{Counted, after, are_same, evaluate_term, free, implies, on_all}
use Rattle.syn_model.proofs.EvaluationEquations.{evaluate_form-And, evaluate_form-Atom, evaluate_form-Equal, evaluate_form-False, evaluate_form-Implies, evaluate_form-Not, evaluate_form-Or, evaluate_form-True, evaluate_out-Give, evaluate_out-If, evaluate_term-App, evaluate_term-Var}
use Rattle.syn_eval.specs.declared.evaluating.Scope.{Scope}
use Rattle.syn_eval.specs.declared.evaluating.Tally.{Tally}
use Rattle.syn_eval.specs.declared.errors.EvalError.{EvalError}
use Rattle.syn_eval.specs.Ending.{Ends, IsWithin}
use Rattle.syn_eval.specs.inner.Scopes.{form_in, forms_in, out_in, reading_in, tallied, tally_in, tally_of, term_in, terms_in, truth_in, value_in, variables_in}
use Rattle.syn_eval.proofs.Answers.{Grows, followed, made, made_grows, made_within, pair_is}
use Rattle.syn_eval.proofs.Growing.{form_grows, out_grows, term_grows}

module _ (s : Scope) where
  -- a variable
  pub var_is : (t : TermTree) (p : Place) (v : Var) (x : ValueTree) → t ≡ node.Var p v → x ≡ numbered_values s.values.now v.number → (n : ℕ) → term_in s t n ≡ free x
  var_is t p v x e is n = ap (λ z. term_in s z n) e ∙ (evaluate_term-Var (reading_in s n) (variables_in s) p v ∙ ap (λ z. free z) (sym is))

  -- an application: the arguments, and the symbol on their values
  pub app_is : (t : TermTree) (p : Place) (f : SymId) (args us : List TermTree) → t ≡ node_view.App p f args → us ≡ args → (n : ℕ) → term_in s t n ≡ followed (terms_in s us) (value_in s f) n
  app_is t p f args us e a n = ap (λ z. term_in s z n) e ∙ (evaluate_term-App (reading_in s n) (variables_in s) p f args ∙ ap (λ z. on_all ((reading_in s n).value f) (map (evaluate_term (reading_in s n) (variables_in s)) z)) (sym a))

  -- an output
  pub give_is : (o : OutTree) (t u : TermTree) → o ≡ out.Give t → u ≡ t → (n : ℕ) → out_in s o n ≡ term_in s u n
  give_is o t u e a n = ap (λ z. out_in s z n) e ∙ (evaluate_out-Give (reading_in s n) (variables_in s) t ∙ ap (λ z. term_in s z n) (sym a))

  -- the arm that is taken
  abbrev pub arm_of : OutTree → OutTree → Bool → OutTree
  arm_of u v b = if b then u else v

  arm_at : (u v : OutTree) (b : Bool) (n : ℕ) → (if b then out_in s u n else out_in s v n) ≡ out_in s (arm_of u v b) n
  arm_at u v true n = refl
  arm_at u v false n = refl

  armed : (u v : OutTree) (n : ℕ) (o : Option (Counted Bool)) → option_and_then (λ c. after c.turns (if c.result then out_in s u n else out_in s v n)) o ≡ option_and_then (λ c. after c.turns (out_in s (arm_of u v c.result) n)) o
  armed u v n None = refl
  armed u v n (Some c) = ap (after c.turns) (arm_at u v c.result n)

  pub choice_is : (o : OutTree) (f g : FormTree) (u v : OutTree) → o ≡ out_view.If f u v → g ≡ f → (n : ℕ) → out_in s o n ≡ followed (form_in s g) (λ b. out_in s (arm_of u v b)) n
  choice_is o f g u v e a n =
      ap (λ z. out_in s z n) e ∙ (evaluate_out-If (reading_in s n) (variables_in s) f u v ∙ (armed u v n (form_in s f n) ∙ ap (λ z. followed (form_in s z) (λ b. out_in s (arm_of u v b)) n) (sym a)))

  pub arm_grows : (u v : OutTree) (b : Bool) → Grows (out_in s (arm_of u v b))
  arm_grows u v b = out_grows s (arm_of u v b)

  -- a formula
  pub true_is : (f : FormTree) → f ≡ form.True → (n : ℕ) → form_in s f n ≡ free true
  true_is f e n = ap (λ z. form_in s z n) e ∙ evaluate_form-True (reading_in s n) (variables_in s)

  pub false_is : (f : FormTree) → f ≡ form.False → (n : ℕ) → form_in s f n ≡ free false
  false_is f e n = ap (λ z. form_in s z n) e ∙ evaluate_form-False (reading_in s n) (variables_in s)

  pub atom_is : (f : FormTree) (r : SymId) (args us : List TermTree) → f ≡ form.Atom r args → us ≡ args → (n : ℕ) → form_in s f n ≡ followed (terms_in s us) (truth_in s r) n
  atom_is f r args us e a n = ap (λ z. form_in s z n) e ∙ (evaluate_form-Atom (reading_in s n) (variables_in s) r args ∙ ap (λ z. on_all ((reading_in s n).truth r) (map (evaluate_term (reading_in s n) (variables_in s)) z)) (sym a))

  -- what is answered of one way to write a formula, is answered of the formula
  pub form_ends : (turns : ℕ) (f g : FormTree) (r : Result (Bool × ℕ) EvalError) → f ≡ g → Ends (form_in s g) turns r → Ends (form_in s f) turns r
  form_ends turns f g r e h = subst (λ z. Ends (form_in s z) turns r) (sym e) h

  abbrev pub same_as : TermTree → ValueTree → ℕ → Option (Counted Bool)
  same_as t v n = made (same_value v) (term_in s t n)

  pub equal_is : (f : FormTree) (a b : TermTree) → f ≡ form.Equal a b → (n : ℕ) → form_in s f n ≡ followed (term_in s a) (same_as b) n
  equal_is f a b e n = ap (λ z. form_in s z n) e ∙ (evaluate_form-Equal (reading_in s n) (variables_in s) a b ∙ pair_is same_value are_same (λ v w. refl) (term_in s a n) (term_in s b n))

  pub same_as_grows : (t : TermTree) (v : ValueTree) → Grows (same_as t v)
  same_as_grows t v = made_grows (same_value v) (term_in s t) (term_grows s t)

  pub not_is : (f a g : FormTree) → f ≡ form_view.Not a → g ≡ a → (n : ℕ) → form_in s f n ≡ made not (form_in s g n)
  not_is f a g e h n = ap (λ z. form_in s z n) e ∙ (evaluate_form-Not (reading_in s n) (variables_in s) a ∙ ap (λ z. made not (form_in s z n)) (sym h))

  -- all members and their tally
  summed : {B : Type 0} (h : List Bool → B) (g : Tally → B) → ((bs : List Bool) → h bs ≡ g (tally_of bs)) → (o : Option (Counted (List Bool))) → option_and_then (λ c. after c.turns (free (h c.result))) o ≡ made g (option_map tallied o)
  summed h g same None = refl
  summed h g same (Some c) =
      let none : c.turns + 0 ≡ c.turns = omega arith in
      λ i. Some (record { result = same c.result i; turns = none i })

  pub and_is : (f : FormTree) (all us : List FormTree) → f ≡ form_view.And all → us ≡ all → (n : ℕ) → form_in s f n ≡ made (λ t. t.all) (tally_in s us n)
  and_is f all us e a n = ap (λ z. form_in s z n) e ∙ (evaluate_form-And (reading_in s n) (variables_in s) all ∙ (summed (λ bs. list_all (λ b. b) bs) (λ t. t.all) (λ bs. refl) (forms_in s all n) ∙ ap (λ z. made (λ (t : Tally). t.all) (tally_in s z n)) (sym a)))

  pub or_is : (f : FormTree) (all us : List FormTree) → f ≡ form_view.Or all → us ≡ all → (n : ℕ) → form_in s f n ≡ made (λ t. t.any) (tally_in s us n)
  or_is f all us e a n = ap (λ z. form_in s z n) e ∙ (evaluate_form-Or (reading_in s n) (variables_in s) all ∙ (summed (λ bs. list_any (λ b. b) bs) (λ t. t.any) (λ bs. refl) (forms_in s all n) ∙ ap (λ z. made (λ (t : Tally). t.any) (tally_in s z n)) (sym a)))

  abbrev pub implied_by : FormTree → Bool → ℕ → Option (Counted Bool)
  implied_by b x n = made (λ y. not x || y) (form_in s b n)

  pub implies_is : (f a b g h : FormTree) → f ≡ form_view.Implies a b → g ≡ a → h ≡ b → (n : ℕ) → form_in s f n ≡ followed (form_in s g) (implied_by h) n
  implies_is f a b g h e k l n =
      ap (λ z. form_in s z n) e ∙ (evaluate_form-Implies (reading_in s n) (variables_in s) a b ∙ (pair_is (λ x y. not x || y) implies (λ x y. refl) (form_in s a n) (form_in s b n)
      ∙ (ap (λ z. followed (form_in s z) (implied_by b) n) (sym k) ∙ ap (λ z. followed (form_in s g) (implied_by z) n) (sym l))))

  pub implied_by_grows : (b : FormTree) (x : Bool) → Grows (implied_by b x)
  implied_by_grows b x = made_grows (λ y. not x || y) (form_in s b) (form_grows s b)

  -- two values are the same, as the code tells
  tested : (v w : ValueTree) (b : Bool) → (IsTrue b ↔ (v ≡ w)) → same_value v w ≡ b
  tested v w true h = (same_value-is v w).1 (h.0 refl)
  tested v w false h = told_false (same_value v w) (λ e. let k : false ≡ true = h.1 ((same_value-is v w).0 e) in cc) where
    told_false : (x : Bool) → (x ≡ true → ⊥) → x ≡ false
    told_false true n = absurd (n refl)
    told_false false n = refl

  pub told_same : (t : TermTree) (v w : ValueTree) (turns more : ℕ) (b : Bool) → (IsTrue b ↔ (v ≡ w)) → IsWithin (term_in s t) turns (record { result = w; turns = more }) → IsWithin (same_as t v) turns (record { result = b; turns = more })
  told_same t v w turns more b h k = subst (λ z. IsWithin (same_as t v) turns (record { result = z; turns = more })) (tested v w b h) (made_within (same_value v) (term_in s t) turns w more k)
