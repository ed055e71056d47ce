-- Two terms have one value where each has it for some bound on the nesting, and what a call of a correct program gives is good.
use Rattle.std.proofs.Common.{◌≡◌, ℕ, ◌+◌, List, Some, ap, subst, arith}
use Rattle.syn_term.specs.Terms.{TermTree}
use Rattle.syn_form.specs.Trees.{OutTree}
use Rattle.syn_value.specs.declared.tree.ValueTree.{ValueTree}
use Rattle.syn_value.specs.Values.{OfSort}
use Rattle.syn_model.specs.declared.decl.Decl.{Decl}
use Rattle.syn_model.specs.Calls.{Meaning, call_of, reading_at}
use Rattle.syn_model.specs.Correctness.{EndsWell, MeetsEnsures, program_meaning}
use Rattle.syn_model.specs.Evaluation.{Counted, Environment, evaluate_term}
use Rattle.syn_model.specs.Specifications.{SpecTree}
use Rattle.syn_model.specs.Truth.{Gives, HaveOneValue}
use Rattle.syn_model.proofs.DeeperCalls.{one_value, term_deeper}

pub have_one_value : (m : Meaning) (inputs : List ValueTree) (env : Environment) (s t : TermTree) (v : ValueTree) (n k : ℕ) → Gives (evaluate_term (reading_at m n inputs) env s) v → Gives (evaluate_term (reading_at m k inputs) env t) v → HaveOneValue m inputs env s t
have_one_value m inputs env s t v n k g h =
    let order : n + k ≡ k + n = omega arith in
    let first : evaluate_term (reading_at m (k + n) inputs) env s ≡ Some (record { result = v; turns = g.0 }) = term_deeper m n k inputs env s (record { result = v; turns = g.0 }) g.1 in
    let second : evaluate_term (reading_at m (k + n) inputs) env t ≡ Some (record { result = v; turns = h.0 }) = subst (λ j. evaluate_term (reading_at m j inputs) env t ≡ Some (record { result = v; turns = h.0 })) order (term_deeper m k n inputs env t (record { result = v; turns = h.0 }) h.1) in
    (k + n, v, (g.0, first), (h.0, second))

module _ (ds : List Decl) (s : SpecTree) (body : OutTree) (args : List ValueTree) (ends : EndsWell ds s body args) (n : ℕ) (v : ValueTree) (given : Gives (call_of (program_meaning ds s body) n args) v) where
  -- a call that ends well gives one value, whatever the bound on the nesting
  pub same_outcome : ends.value ≡ v
  same_outcome = ap (λ (c : Counted ValueTree). c.result) (one_value (program_meaning ds s body) ends.nesting n _ _ args (record { result = ends.value; turns = ends.ends.0 }) (record { result = v; turns = given.0 }) ends.ends.1 given.1)

  pub outcome_is_good : MeetsEnsures ds s args v
  outcome_is_good = subst (λ w. MeetsEnsures ds s args w) same_outcome ends.good

  pub outcome_is_of_sort : OfSort s.table s.head.result v
  outcome_is_of_sort = subst (λ w. OfSort s.table s.head.result w) same_outcome ends.of_sort
