-- For private contracts: what evaluation in a scope and what each kind of call gives, for each bound on the nesting of calls.
use Rattle.std.specs.Prelude.{ℕ, zero, suc, Bool, List, [], Option, None, Some, map}
use Rattle.std.specs.List.{list_all, list_any}
use Rattle.std.specs.Option.{option_and_then, option_map}
use Rattle.syn_term.specs.declared.sorts.SymId.{SymId}
use Rattle.syn_term.specs.Terms.{TermTree}
use Rattle.syn_form.specs.Trees.{FormTree, OutTree}
use Rattle.syn_value.specs.declared.tree.ValueTree.{ValueTree}
use Rattle.syn_model.specs.Calls.{Meaning, by_function, by_measure, by_relation, chosen, numbered_values, reading_at}
use Rattle.syn_model.specs.Clausal.{Clause}
use Rattle.syn_model.specs.Evaluation.{Counted, Environment, Reading, after, evaluate_form, evaluate_out, evaluate_term, together}
use Rattle.syn_value.specs.Values.{FitsTurns, number_of}
use Rattle.syn_eval.specs.Ending.{AllFit}
use Rattle.syn_eval.specs.declared.evaluating.Scope.{Scope}
use Rattle.syn_eval.specs.declared.evaluating.Tally.{Tally}

-- each number in the value may grow by so many turns, and each in these values
unfoldable pub HasRoom : ℕ → ValueTree → Type 0
HasRoom turns v = FitsTurns v turns

unfoldable pub HaveRoom : ℕ → List ValueTree → Type 0
HaveRoom turns vs = AllFit turns vs

module _ (s : Scope) where
  abbrev pub reading_in : ℕ → Reading
  reading_in n = reading_at s.set.now n s.inputs.now

  abbrev pub variables_in : Environment
  variables_in = numbered_values s.values.now

  -- the values of terms, the truth values of formulas, and the values of outputs
  abbrev pub term_in : TermTree → ℕ → Option (Counted ValueTree)
  term_in t n = evaluate_term (reading_in n) variables_in t

  abbrev pub terms_in : List TermTree → ℕ → Option (Counted (List ValueTree))
  terms_in ts n = together (map (evaluate_term (reading_in n) variables_in) ts)

  -- the number that a term's value is
  abbrev pub number_in : TermTree → ℕ → Option (Counted (Option ℕ))
  number_in t n = option_map (λ c. record { result = number_of c.result; turns = c.turns }) (term_in t n)

  abbrev pub form_in : FormTree → ℕ → Option (Counted Bool)
  form_in f n = evaluate_form (reading_in n) variables_in f

  abbrev pub forms_in : List FormTree → ℕ → Option (Counted (List Bool))
  forms_in fs n = together (map (evaluate_form (reading_in n) variables_in) fs)

  abbrev pub out_in : OutTree → ℕ → Option (Counted ValueTree)
  out_in o n = evaluate_out (reading_in n) variables_in o

  -- what a symbol gives on values
  abbrev pub value_in : SymId → List ValueTree → ℕ → Option (Counted ValueTree)
  value_in f vs n = (reading_in n).value f vs

  abbrev pub truth_in : SymId → List ValueTree → ℕ → Option (Counted Bool)
  truth_in r vs n = (reading_in n).truth r vs

  -- so it is of the values of inputs and variables
  unfoldable pub ScopeHasRoom : ℕ → Type 0
  ScopeHasRoom turns = HaveRoom turns s.inputs.now × HaveRoom turns s.values.now

-- of some truth values, whether all are true and whether any is
abbrev pub tally_of : List Bool → Tally
tally_of bs = record { all = list_all (λ b. b) bs; any = list_any (λ b. b) bs }

abbrev pub tallied : Counted (List Bool) → Counted Tally
tallied c = record { result = tally_of c.result; turns = c.turns }

abbrev pub tally_in : Scope → List FormTree → ℕ → Option (Counted Tally)
tally_in s fs n = option_map tallied (forms_in s fs n)

-- what is given one level below
abbrev pub below_at : Meaning → ℕ → Option (List ValueTree → Reading)
below_at m zero = None
below_at m (suc n) = Some (reading_at m n)

-- a call of a function with these clauses, of the program, of a relation with these clauses, and of an order with this measure
abbrev pub function_at : Meaning → List (Clause OutTree) → List ValueTree → ℕ → Option (Counted ValueTree)
function_at m cs vs n = option_and_then (λ below. option_and_then (λ c. after 1 (by_function (below []) c)) (chosen m.table cs vs)) (below_at m n)

abbrev pub program_at : Meaning → List ValueTree → ℕ → Option (Counted ValueTree)
program_at m vs n = option_and_then (λ below. option_and_then (λ body. after 1 (evaluate_out (below vs) (numbered_values []) body)) m.body) (below_at m n)

abbrev pub relation_at : Meaning → List (Clause FormTree) → List ValueTree → ℕ → Option (Counted Bool)
relation_at m cs vs n = option_and_then (λ below. option_and_then (λ c. after 1 (by_relation (below []) c)) (chosen m.table cs vs)) (below_at m n)

abbrev pub order_at : Meaning → TermTree → List ValueTree → ℕ → Option (Counted Bool)
order_at m measure vs n = option_and_then (λ below. after 1 (by_measure (below []) vs measure)) (below_at m n)
