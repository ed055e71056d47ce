-- What calls give that nest at most so deep, they give too where they may nest deeper, in as many turns.
use Rattle.std.proofs.Common.{◌≡◌, ℕ, zero, suc, ◌+◌, Bool, List, [], None, Some, sym, subst, ◌∙◌, arith}
use Rattle.syn_term.specs.declared.sorts.SymId.{SymId}
use Rattle.syn_term.specs.Terms.{TermTree}
use Rattle.syn_form.specs.Trees.{FormTree, OutTree}
use Rattle.syn_value.specs.declared.tree.ValueTree.{ValueTree}
use Rattle.syn_model.specs.Calls.{Meaning, call_of, reading_at}
use Rattle.syn_model.specs.Evaluation.{Counted, Environment, evaluate_form, evaluate_out, evaluate_term}
use Rattle.syn_model.proofs.GrowingMeanings.{Grows-refl, over_part}
use Rattle.syn_model.proofs.KeptReadings.{IsPart, Keeps, Some_one, form_kept, keeps_same, out_kept, term_kept}

next_part : (m : Meaning) (n : ℕ) (inputs : List ValueTree) → IsPart (reading_at m n inputs) (reading_at m (suc n) inputs)
next_part m zero inputs = over_part m m (Grows-refl m) None (Some (reading_at m zero)) tt inputs
next_part m (suc n) inputs = over_part m m (Grows-refl m) (Some (reading_at m n)) (Some (reading_at m (suc n))) (next_part m n) inputs

-- what calls give that nest at most n deep, they give where they may nest one deeper
pub one_deeper : (m : Meaning) (n : ℕ) (inputs : List ValueTree) → IsPart (reading_at m n inputs) (reading_at m (n + 1) inputs)
one_deeper m n inputs = let e : suc n ≡ n + 1 = omega arith in subst (λ k. IsPart (reading_at m n inputs) (reading_at m k inputs)) e (next_part m n inputs)

-- and where they may nest so many deeper
pub deeper : (m : Meaning) (n k : ℕ) (inputs : List ValueTree) → IsPart (reading_at m n inputs) (reading_at m (k + n) inputs)
deeper m n zero inputs = let e : n ≡ 0 + n = omega arith in subst (λ j. IsPart (reading_at m n inputs) (reading_at m j inputs)) e (record { value = λ f vs. keeps_same _; truth = λ r vs. keeps_same _ })
deeper m n (suc k) inputs =
    let below = deeper m n k inputs in
    let above = next_part m (k + n) inputs in
    let e : suc (k + n) ≡ suc k + n = omega arith in
    subst (λ j. IsPart (reading_at m n inputs) (reading_at m j inputs)) e (record { value = λ f vs a h. above.value f vs a (below.value f vs a h); truth = λ r vs a h. above.truth r vs a (below.truth r vs a h) })

-- a program's call that has a value has it where calls may nest deeper
pub call_deeper : (m : Meaning) (n k : ℕ) (vs : List ValueTree) (c : Counted ValueTree) → call_of m n vs ≡ Some c → call_of m (k + n) vs ≡ Some c
call_deeper m n k vs c e = (deeper m n k []).value _ vs c e

-- so what is given is one, however deep calls may nest
module _ (m : Meaning) (n k : ℕ) (inputs : List ValueTree) where
  both_deep : k + n ≡ n + k
  both_deep = omega arith

  pub one_value : (f : SymId) (vs : List ValueTree) (c d : Counted ValueTree) → (reading_at m n inputs).value f vs ≡ Some c → (reading_at m k inputs).value f vs ≡ Some d → c ≡ d
  one_value f vs c d e h =
      let at_c : (reading_at m (n + k) inputs).value f vs ≡ Some c = subst (λ j. (reading_at m j inputs).value f vs ≡ Some c) both_deep ((deeper m n k inputs).value f vs c e) in
      let at_d : (reading_at m (n + k) inputs).value f vs ≡ Some d = (deeper m k n inputs).value f vs d h in
      Some_one c d (sym at_c ∙ at_d)

  pub one_truth : (r : SymId) (vs : List ValueTree) (c d : Counted Bool) → (reading_at m n inputs).truth r vs ≡ Some c → (reading_at m k inputs).truth r vs ≡ Some d → c ≡ d
  one_truth r vs c d e h =
      let at_c : (reading_at m (n + k) inputs).truth r vs ≡ Some c = subst (λ j. (reading_at m j inputs).truth r vs ≡ Some c) both_deep ((deeper m n k inputs).truth r vs c e) in
      let at_d : (reading_at m (n + k) inputs).truth r vs ≡ Some d = (deeper m k n inputs).truth r vs d h in
      Some_one c d (sym at_c ∙ at_d)

-- what terms, formulas and outputs are evaluated to, they are where calls may nest deeper
module _ (m : Meaning) (n k : ℕ) (inputs : List ValueTree) (env : Environment) where
  pub term_deeper : (t : TermTree) → Keeps (evaluate_term (reading_at m n inputs) env t) (evaluate_term (reading_at m (k + n) inputs) env t)
  term_deeper = term_kept (reading_at m n inputs) (reading_at m (k + n) inputs) (deeper m n k inputs) env

  pub form_deeper : (f : FormTree) → Keeps (evaluate_form (reading_at m n inputs) env f) (evaluate_form (reading_at m (k + n) inputs) env f)
  form_deeper = form_kept (reading_at m n inputs) (reading_at m (k + n) inputs) (deeper m n k inputs) env

  pub out_deeper : (o : OutTree) → Keeps (evaluate_out (reading_at m n inputs) env o) (evaluate_out (reading_at m (k + n) inputs) env o)
  out_deeper = out_kept (reading_at m n inputs) (reading_at m (k + n) inputs) (deeper m n k inputs) env
