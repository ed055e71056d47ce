-- What each kind of call asks: a turn, and what is evaluated one level below.
use Rattle.std.proofs.Common.{◌≡◌, ℕ, zero, suc, ◌+◌, Bool, List, [], Option, None, Some, length, take, drop, refl, sym, ap, ◌∙◌, arith}
use Rattle.std.specs.Option.{option_and_then}
use Rattle.syn_term.specs.Terms.{TermTree}
use Rattle.syn_form.specs.Trees.{FormTree, OutTree}
use Rattle.syn_value.specs.declared.tree.ValueTree.{ValueTree}
use Rattle.syn_value.specs.Values.{number_of}
use Rattle.syn_model.specs.Calls.{Chosen, Meaning, by_function, by_measure, by_relation, chosen, half, numbered_values, reading_at, smaller, smaller_values}
use Rattle.syn_model.specs.Clausal.{Clause}
use Rattle.syn_model.specs.Evaluation.{Counted, after, evaluate_form, evaluate_out, evaluate_term}
use Rattle.syn_eval.specs.declared.evaluating.Scope.{Scope}
use Rattle.syn_eval.specs.Ending.{IsSpent}
use Rattle.syn_eval.specs.inner.Scopes.{form_in, function_at, number_in, order_at, out_in, program_at, relation_at, term_in}
use Rattle.syn_eval.proofs.Answers.{followed, made, no_turn}

-- a turn may be counted before or after what was chosen is known
turn_first : {A X : Type 0} (f : X → Option (Counted A)) (o : Option X) → option_and_then (λ x. after 1 (f x)) o ≡ after 1 (option_and_then f o)
turn_first f None = refl
turn_first f (Some x) = refl

none_then : {A X : Type 0} (f : X → Option A) (o : Option X) → o ≡ None → option_and_then f o ≡ None
none_then f o e = ap (option_and_then f) e

some_then : {A X : Type 0} (f : X → Option A) (o : Option X) (x : X) → o ≡ Some x → option_and_then f o ≡ f x
some_then f o x e = ap (option_and_then f) e

-- a scope of such values, without inputs
pub record Inside (s : Scope) (m : Meaning) (inputs values : List ValueTree) : Type 0 where
  pub set : s.set.now ≡ m
  pub inputs_are : s.inputs.now ≡ inputs
  pub values_are : s.values.now ≡ values

module _ (s : Scope) (m : Meaning) (inputs values : List ValueTree) (h : Inside s m inputs values) where
  pub out_inside : (n : ℕ) (o : OutTree) → out_in s o n ≡ evaluate_out (reading_at m n inputs) (numbered_values values) o
  out_inside n o = λ i. evaluate_out (reading_at (h.set i) n (h.inputs_are i)) (numbered_values (h.values_are i)) o

  pub form_inside : (n : ℕ) (f : FormTree) → form_in s f n ≡ evaluate_form (reading_at m n inputs) (numbered_values values) f
  form_inside n f = λ i. evaluate_form (reading_at (h.set i) n (h.inputs_are i)) (numbered_values (h.values_are i)) f

  pub term_inside : (n : ℕ) (t : TermTree) → term_in s t n ≡ evaluate_term (reading_at m n inputs) (numbered_values values) t
  term_inside n t = λ i. evaluate_term (reading_at (h.set i) n (h.inputs_are i)) (numbered_values (h.values_are i)) t

module _ (m : Meaning) (cs : List (Clause OutTree)) (vs : List ValueTree) where
  pub function_turn : IsSpent (function_at m cs vs) 0
  function_turn = no_turn (λ n. option_and_then (by_function (reading_at m n [])) (chosen m.table cs vs)) (function_at m cs vs) refl (λ n. turn_first (by_function (reading_at m n [])) (chosen m.table cs vs))

  pub function_none : chosen m.table cs vs ≡ None → (n : ℕ) → function_at m cs vs n ≡ None
  function_none e zero = refl
  function_none e (suc n) = none_then (λ c. after 1 (by_function (reading_at m n []) c)) (chosen m.table cs vs) e

  pub function_one : (s : Scope) (c : Chosen OutTree) (b : OutTree) → chosen m.table cs vs ≡ Some c → b ≡ c.body → Inside s m [] c.values → (n : ℕ) → function_at m cs vs (suc n) ≡ after 1 (out_in s b n)
  function_one s c b e is h n = some_then (λ c. after 1 (by_function (reading_at m n []) c)) (chosen m.table cs vs) c e ∙ ap (after 1) (sym (out_inside s m [] c.values h n b ∙ ap (evaluate_out (reading_at m n []) (numbered_values c.values)) is))

module _ (m : Meaning) (cs : List (Clause FormTree)) (vs : List ValueTree) where
  pub relation_turn : IsSpent (relation_at m cs vs) 0
  relation_turn = no_turn (λ n. option_and_then (by_relation (reading_at m n [])) (chosen m.table cs vs)) (relation_at m cs vs) refl (λ n. turn_first (by_relation (reading_at m n [])) (chosen m.table cs vs))

  pub relation_none : chosen m.table cs vs ≡ None → (n : ℕ) → relation_at m cs vs n ≡ None
  relation_none e zero = refl
  relation_none e (suc n) = none_then (λ c. after 1 (by_relation (reading_at m n []) c)) (chosen m.table cs vs) e

  pub relation_one : (s : Scope) (c : Chosen FormTree) (b : FormTree) → chosen m.table cs vs ≡ Some c → b ≡ c.body → Inside s m [] c.values → (n : ℕ) → relation_at m cs vs (suc n) ≡ after 1 (form_in s b n)
  relation_one s c b e is h n = some_then (λ c. after 1 (by_relation (reading_at m n []) c)) (chosen m.table cs vs) c e ∙ ap (after 1) (sym (form_inside s m [] c.values h n b ∙ ap (evaluate_form (reading_at m n []) (numbered_values c.values)) is))

module _ (m : Meaning) (vs : List ValueTree) where
  pub program_turn : IsSpent (program_at m vs) 0
  program_turn = no_turn (λ n. option_and_then (evaluate_out (reading_at m n vs) (numbered_values [])) m.body) (program_at m vs) refl (λ n. turn_first (evaluate_out (reading_at m n vs) (numbered_values [])) m.body)

  pub program_none : m.body ≡ None → (n : ℕ) → program_at m vs n ≡ None
  program_none e zero = refl
  program_none e (suc n) = none_then (λ body. after 1 (evaluate_out (reading_at m n vs) (numbered_values []) body)) m.body e

  pub program_one : (s : Scope) (body b : OutTree) → m.body ≡ Some body → b ≡ body → Inside s m vs [] → (n : ℕ) → program_at m vs (suc n) ≡ after 1 (out_in s b n)
  program_one s body b e is h n = some_then (λ body. after 1 (evaluate_out (reading_at m n vs) (numbered_values []) body)) m.body body e ∙ ap (after 1) (sym (out_inside s m vs [] h n b ∙ ap (evaluate_out (reading_at m n vs) (numbered_values [])) is))

-- the second measure, compared with the first
abbrev pub compared : Scope → TermTree → Option ℕ → ℕ → Option (Counted Bool)
compared s t a n = option_and_then (λ b. after b.turns (smaller a b.result)) (number_in s t n)

abbrev pub both_measured : Scope → Scope → TermTree → ℕ → Option (Counted Bool)
both_measured s r t = followed (number_in s t) (compared r t)

module _ (m : Meaning) (measure : TermTree) (vs : List ValueTree) where
  pub order_turn : IsSpent (order_at m measure vs) 0
  order_turn = no_turn (λ n. by_measure (reading_at m n []) vs measure) (order_at m measure vs) refl (λ n. refl)

  summed_turns : (v w : Counted ValueTree) (o : Option (Counted Bool)) → after (v.turns + w.turns) o ≡ after v.turns (after w.turns o)
  summed_turns v w None = refl
  summed_turns v w (Some b) =
      let sum : (v.turns + w.turns) + b.turns ≡ v.turns + (w.turns + b.turns) = omega arith in
      ap (λ t. Some (record { result = b.result; turns = t })) sum

  abbrev numbered : Option (Counted ValueTree) → Option (Counted (Option ℕ))
  numbered = made number_of

  measured : (o p : Option (Counted ValueTree)) → option_and_then (λ v. option_and_then (smaller_values v) p) o ≡ option_and_then (λ a. after a.turns (option_and_then (λ b. after b.turns (smaller a.result b.result)) (numbered p))) (numbered o)
  measured None p = refl
  measured (Some v) None = refl
  measured (Some v) (Some w) = summed_turns v w (smaller (number_of v.result) (number_of w.result))

  pub order_one : (s r : Scope) → Inside s m [] (take (half (length vs)) vs) → Inside r m [] (drop (half (length vs)) vs) → (n : ℕ) → order_at m measure vs (suc n) ≡ after 1 (both_measured s r measure n)
  order_one s r h k n =
      let first = evaluate_term (reading_at m n []) (numbered_values (take (half (length vs)) vs)) measure in
      let second = evaluate_term (reading_at m n []) (numbered_values (drop (half (length vs)) vs)) measure in
      ap (after 1) (measured first second ∙ λ i. option_and_then (λ a. after a.turns (option_and_then (λ b. after b.turns (smaller a.result b.result)) (numbered (sym (term_inside r m [] (drop (half (length vs)) vs) k n measure) i)))) (numbered (sym (term_inside s m [] (take (half (length vs)) vs) h n measure) i)))
