-- What is answered of an order, where it is known what is answered of its two measures.
use Rattle.std.proofs.Common.{◌≡◌, ℕ, ◌+◌, ◌-◌, ◌<◌, Bool, List, [], Option, None, Err, length, take, drop, refl, subst, arith}
use Rattle.syn_term.specs.Terms.{TermTree}
use Rattle.syn_value.specs.declared.tree.ValueTree.{ValueTree}
use Rattle.syn_value.specs.Values.{number_of}
use Rattle.syn_model.specs.Calls.{Meaning, half, smaller}
use Rattle.syn_model.specs.Evaluation.{free}
use Rattle.syn_eval.specs.declared.errors.EvalError.{EvalError}
use Rattle.syn_eval.specs.declared.evaluating.Scope.{Scope}
use Rattle.syn_eval.specs.Ending.{Ends, IsSpent, IsWithin}
use Rattle.syn_eval.specs.inner.Scopes.{number_in, order_at, term_in}
use Rattle.syn_eval.proofs.Answers.{At, Grows, at_once, both_within, call_spent, call_within, carried, first_fails, first_spent, made_grows, never, second_fails, second_spent, two_grow}
use Rattle.syn_eval.proofs.CallSteps.{Inside, both_measured, compared, order_one}
use Rattle.syn_eval.proofs.Growing.{term_grows}

-- the comparison of two numbers, which asks nothing
abbrev on_numbers : Option ℕ → Option ℕ → At Bool
on_numbers a c n = smaller a c

numbers_grow : (a c : Option ℕ) → Grows (on_numbers a c)
numbers_grow a c n k d e = e

number_grows : (s : Scope) (t : TermTree) → Grows (number_in s t)
number_grows s t = made_grows number_of (term_in s t) (term_grows s t)

compared_grows : (r : Scope) (t : TermTree) (a : Option ℕ) → Grows (compared r t a)
compared_grows r t a = two_grow (number_in r t) (on_numbers a) (number_grows r t) (numbers_grow a)

module _ (m : Meaning) (t : TermTree) (vs : List ValueTree) (s r : Scope) (h : Inside s m [] (take (half (length vs)) vs)) (k : Inside r m [] (drop (half (length vs)) vs)) (turns : ℕ) (some : 0 < turns) where
  fails : (e : EvalError) → Ends (both_measured s r t) (turns - 1) (Err e) → Ends (order_at m t vs) turns (Err e)
  fails = carried (both_measured s r t) (order_at m t vs) (turns - 1) turns (call_spent (both_measured s r t) (order_at m t vs) refl (order_one m t vs s r h k) turns some)

  pub first_measure_fails : (e : EvalError) → Ends (number_in s t) (turns - 1) (Err e) → Ends (order_at m t vs) turns (Err e)
  first_measure_fails e g = fails e (first_fails (number_in s t) (compared r t) (both_measured s r t) (λ n. refl) (number_grows s t) (compared_grows r t) (turns - 1) e g)

  module _ (a : Option ℕ) (used : ℕ) (first : IsWithin (number_in s t) (turns - 1) (record { result = a; turns = used })) where
    pub second_measure_fails : (e : EvalError) → Ends (number_in r t) ((turns - 1) - used) (Err e) → Ends (order_at m t vs) turns (Err e)
    second_measure_fails e g =
        fails e (second_fails (number_in s t) (compared r t) (both_measured s r t) (λ n. refl) (number_grows s t) (compared_grows r t) (turns - 1) a used first e
        (carried (number_in r t) (compared r t a) ((turns - 1) - used) ((turns - 1) - used) (first_spent (number_in r t) (on_numbers a) ((turns - 1) - used)) e g))

    module _ (c : Option ℕ) (more : ℕ) (second : IsWithin (number_in r t) ((turns - 1) - used) (record { result = c; turns = more })) where
      pub not_compared : smaller a c ≡ None → IsSpent (order_at m t vs) turns
      not_compared e =
          call_spent (both_measured s r t) (order_at m t vs) refl (order_one m t vs s r h k) turns some
          (second_spent (number_in s t) (compared r t) (number_grows s t) (turns - 1) a used first
          (second_spent (number_in r t) (on_numbers a) (number_grows r t) ((turns - 1) - used) c more second (never (on_numbers a c) (((turns - 1) - used) - more) (λ n. e))))

      pub compared_within : (b : Bool) → smaller a c ≡ free b → IsWithin (order_at m t vs) turns (record { result = b; turns = 1 + (used + more) })
      compared_within b e =
          let none : more + 0 ≡ more = omega arith in
          let last : IsWithin (on_numbers a c) (((turns - 1) - used) - more) (record { result = b; turns = 0 }) = at_once (on_numbers a c) (((turns - 1) - used) - more) b e in
          let inner : IsWithin (compared r t a) ((turns - 1) - used) (record { result = b; turns = more + 0 }) = both_within (number_in r t) (on_numbers a) (number_grows r t) (numbers_grow a) ((turns - 1) - used) c more b 0 second last in
          let right : IsWithin (compared r t a) ((turns - 1) - used) (record { result = b; turns = more }) = subst (λ z. IsWithin (compared r t a) ((turns - 1) - used) (record { result = b; turns = z })) none inner in
          call_within (both_measured s r t) (order_at m t vs) refl (order_one m t vs s r h k) turns b (used + more) some
          (both_within (number_in s t) (compared r t) (number_grows s t) (compared_grows r t) (turns - 1) a used b more first right)
