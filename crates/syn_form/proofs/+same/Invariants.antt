use Rattle.std.proofs.Common.{◌≡◌, ◌+◌, ◌*◌, map, sum, take}
use Rattle.syn_form.specs.Trees.{bare_form, form_nodes}
use Rattle.syn_form.proofs.+same.Given as goal

-- a formula is larger than its parts, and what compares these comes before each of them
abbrev pub decreases-trees::Form::is_one : goal.decreases-trees::Form::is_one
decreases-trees::Form::is_one l = 3 * form_nodes l.self.now

abbrev pub decreases-trees::Form::is_negation_of : goal.decreases-trees::Form::is_negation_of
decreases-trees::Form::is_negation_of l = 3 * form_nodes l.a.now + 1

abbrev pub decreases-trees::Form::is_and_of : goal.decreases-trees::Form::is_and_of
decreases-trees::Form::is_and_of l = 3 * sum (map form_nodes l.all.now) + 2

abbrev pub decreases-trees::Form::is_or_of : goal.decreases-trees::Form::is_or_of
decreases-trees::Form::is_or_of l = 3 * sum (map form_nodes l.all.now) + 2

abbrev pub decreases-trees::Form::is_implication_of : goal.decreases-trees::Form::is_implication_of
decreases-trees::Form::is_implication_of l = 3 * (form_nodes l.a.now + form_nodes l.b.now) + 1

abbrev pub decreases-form::same_forms : goal.decreases-form::same_forms
decreases-form::same_forms l = 3 * sum (map form_nodes l.fs.now) + 1

abbrev pub invariant-form::same_forms-loop-i : goal.invariant-form::same_forms-loop-i
invariant-form::same_forms-loop-i l = map bare_form (take l.i l.fs) ≡ map bare_form (take l.i l.gs)
