use Rattle.std.proofs.Common.{◌≡◌, ℕ, ◌+◌, ◌-◌, ◌*◌, ◌≤◌, Bool, List, map, sum, take}
use Rattle.syn_term.specs.Terms.{nodes}
use Rattle.syn_form.specs.Trees.{FormTree, form_nodes, out_nodes}
use Rattle.syn_eval.specs.declared.evaluating.Scope.{Scope}
use Rattle.syn_eval.specs.declared.evaluating.Tally.{Tally}
use Rattle.syn_eval.specs.Ending.{IsWithin}
use Rattle.syn_eval.specs.inner.Scopes.{HaveRoom, forms_in, tally_of, terms_in}
use Rattle.syn_eval.specs.inner.Weights.{weight}
use Rattle.syn_eval.proofs.evaluating.+eval.Given as goal

-- Each step has fewer turns left, or as many and fewer nodes before it. What a call and a list of parts ask stands between.
abbrev pub decreases-eval_term : goal.decreases-eval_term
decreases-eval_term l = l.turns * weight l.scope.now.set.now + 4 * nodes l.t.now

abbrev pub decreases-eval_terms : goal.decreases-eval_terms
decreases-eval_terms l = l.turns * weight l.scope.now.set.now + (4 * sum (map nodes l.terms.now) + 1)

abbrev pub decreases-call : goal.decreases-call
decreases-call l = l.turns * weight l.scope.now.set.now + 3

abbrev pub decreases-call_function : goal.decreases-call_function
decreases-call_function l = l.turns * weight l.set.now + 2

abbrev pub decreases-call_program : goal.decreases-call_program
decreases-call_program l = l.turns * weight l.set.now + 2

abbrev pub decreases-eval_out : goal.decreases-eval_out
decreases-eval_out l = l.turns * weight l.scope.now.set.now + (4 * out_nodes l.out.now + 1)

abbrev pub decreases-eval_atom : goal.decreases-eval_atom
decreases-eval_atom l = l.turns * weight l.scope.now.set.now + (4 * sum (map nodes l.args.now) + 3)

abbrev pub decreases-eval_equal : goal.decreases-eval_equal
decreases-eval_equal l = l.turns * weight l.scope.now.set.now + (4 * (nodes l.first.now + nodes l.second.now) + 1)

abbrev pub decreases-eval_implies : goal.decreases-eval_implies
decreases-eval_implies l = l.turns * weight l.scope.now.set.now + (4 * (form_nodes l.first.now + form_nodes l.second.now) + 1)

abbrev pub decreases-eval_and : goal.decreases-eval_and
decreases-eval_and l = l.turns * weight l.scope.now.set.now + (4 * sum (map form_nodes l.all.now) + 2)

abbrev pub decreases-eval_or : goal.decreases-eval_or
decreases-eval_or l = l.turns * weight l.scope.now.set.now + (4 * sum (map form_nodes l.all.now) + 2)

abbrev pub decreases-eval_number : goal.decreases-eval_number
decreases-eval_number l = l.turns * weight l.scope.now.set.now + (4 * nodes l.t.now + 1)

abbrev pub decreases-eval_form : goal.decreases-eval_form
decreases-eval_form l = l.turns * weight l.scope.now.set.now + 4 * form_nodes l.form.now

abbrev pub decreases-eval_forms : goal.decreases-eval_forms
decreases-eval_forms l = l.turns * weight l.scope.now.set.now + (4 * sum (map form_nodes l.forms.now) + 1)

abbrev pub decreases-ask : goal.decreases-ask
decreases-ask l = l.turns * weight l.scope.now.set.now + 2

abbrev pub decreases-ask_relation : goal.decreases-ask_relation
decreases-ask_relation l = l.turns * weight l.set.now + 1

abbrev pub decreases-ask_order : goal.decreases-ask_order
decreases-ask_order l = l.turns * weight l.set.now + 1

-- the values so far are those of the terms so far, within the turns that they took
abbrev pub invariant-eval_terms-loop-t : goal.invariant-eval_terms-loop-t
invariant-eval_terms-loop-t l = (l.used ≤ l.turns) × IsWithin (terms_in l.scope (take l.t-index l.terms)) l.turns (record { result = l.made; turns = l.used }) × HaveRoom (l.turns - l.used) l.made

-- the tally is that of the formulas so far
pub record Told (s : Scope) (fs : List FormTree) (turns used : ℕ) (tally : Tally) : Type 0 where
  pub values : List Bool
  pub tallied : tally ≡ tally_of values
  pub given : IsWithin (forms_in s fs) turns (record { result = values; turns = used })

abbrev pub invariant-eval_forms-loop-form : goal.invariant-eval_forms-loop-form
invariant-eval_forms-loop-form l = (l.used ≤ l.turns) × Told l.scope (take l.form-index l.forms) l.turns l.used l.tally
