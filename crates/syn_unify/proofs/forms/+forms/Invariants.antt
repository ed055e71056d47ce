use Rattle.std.proofs.Common.{◌+◌, ◌*◌, map, sum, take}
use Rattle.std.specs.List.{flat_map}
use Rattle.syn_form.specs.Trees.{form_nodes, form_terms}
use Rattle.syn_unify.specs.inner.Forms.{AreAllOne, Opened}
use Rattle.syn_unify.proofs.forms.+forms.Given as goal

abbrev pub decreases-put_form_pairs : goal.decreases-put_form_pairs
decreases-put_form_pairs l = 3 * form_nodes l.f.now

abbrev pub decreases-put_negation_pairs : goal.decreases-put_negation_pairs
decreases-put_negation_pairs l = 3 * form_nodes l.a.now + 1

abbrev pub decreases-put_conjunction_pairs : goal.decreases-put_conjunction_pairs
decreases-put_conjunction_pairs l = 3 * sum (map form_nodes l.all.now) + 2

abbrev pub decreases-put_disjunction_pairs : goal.decreases-put_disjunction_pairs
decreases-put_disjunction_pairs l = 3 * sum (map form_nodes l.all.now) + 2

abbrev pub decreases-put_implication_pairs : goal.decreases-put_implication_pairs
decreases-put_implication_pairs l = 3 * (form_nodes l.a.now + form_nodes l.b.now) + 1

abbrev pub decreases-put_member_pairs : goal.decreases-put_member_pairs
decreases-put_member_pairs l = 3 * sum (map form_nodes l.fs.now) + 1

abbrev pub invariant-put_member_pairs-loop-i : goal.invariant-put_member_pairs-loop-i
invariant-put_member_pairs-loop-i l = Opened (AreAllOne (take l.i l.fs) (take l.i l.gs)) (flat_map form_terms l.fs) (flat_map form_terms l.gs) l.fn.left l.left
