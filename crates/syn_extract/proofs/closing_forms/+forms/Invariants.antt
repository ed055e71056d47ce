use Rattle.std.proofs.Common.{◌≡◌, ◌+◌, ◌*◌, map, sum, take}
use Rattle.syn_term.specs.Bank.{Extends}
use Rattle.syn_form.specs.Trees.{bare_form, form_nodes}
use Rattle.syn_extract.specs.inner.ClosedForms.{closed_form}
use Rattle.syn_extract.proofs.closing_forms.+forms.Given as goal

abbrev pub decreases-close_form : goal.decreases-close_form
decreases-close_form l = 3 * form_nodes l.f.now

abbrev pub decreases-close_negation : goal.decreases-close_negation
decreases-close_negation l = 3 * form_nodes l.a.now + 1

abbrev pub decreases-close_implication : goal.decreases-close_implication
decreases-close_implication l = 3 * (form_nodes l.a.now + form_nodes l.b.now) + 1

abbrev pub decreases-close_conjunction : goal.decreases-close_conjunction
decreases-close_conjunction l = 3 * sum (map form_nodes l.all.now) + 2

abbrev pub decreases-close_disjunction : goal.decreases-close_disjunction
decreases-close_disjunction l = 3 * sum (map form_nodes l.all.now) + 2

abbrev pub decreases-close_forms : goal.decreases-close_forms
decreases-close_forms l = 3 * sum (map form_nodes l.all.now) + 1

pub record Kept (l : goal.Live-close_forms-loop-f) : Type 0 where
  pub tree : map bare_form l.done ≡ map (closed_form l.syms) (take l.f-index l.all)
  pub extends : Extends l.fn.bank l.bank

abbrev pub invariant-close_forms-loop-f : goal.invariant-close_forms-loop-f
invariant-close_forms-loop-f = Kept
