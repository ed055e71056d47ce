use Rattle.std.proofs.Common.{◌≡◌, ◌≤◌, ◌+◌, ◌*◌, All, map, sum, take}
use Rattle.syn_term.specs.Bank.{Belongs, Extends}
use Rattle.syn_form.specs.inner.Joining.{terms_of}
use Rattle.syn_form.specs.Trees.{bare_form, form_nodes}
use Rattle.syn_unify.specs.Bindings.{remade_in_form}
use Rattle.syn_unify.specs.inner.Changes.{becomes, cost}
use Rattle.syn_unify.specs.inner.Forms.{form_under}
use Rattle.syn_unify.proofs.changing_forms.+forms.Given as goal

abbrev pub decreases-changed_form : goal.decreases-changed_form
decreases-changed_form l = 3 * form_nodes l.f.now

abbrev pub decreases-changed_negation : goal.decreases-changed_negation
decreases-changed_negation l = 3 * form_nodes l.a.now + 1

abbrev pub decreases-changed_implication : goal.decreases-changed_implication
decreases-changed_implication l = 3 * (form_nodes l.a.now + form_nodes l.b.now) + 1

abbrev pub decreases-changed_conjunction : goal.decreases-changed_conjunction
decreases-changed_conjunction l = 3 * sum (map form_nodes l.all.now) + 2

abbrev pub decreases-changed_disjunction : goal.decreases-changed_disjunction
decreases-changed_disjunction l = 3 * sum (map form_nodes l.all.now) + 2

abbrev pub decreases-changed_forms : goal.decreases-changed_forms
decreases-changed_forms l = 3 * sum (map form_nodes l.all.now) + 1

pub record Kept (l : goal.Live-changed_forms-loop-f) : Type 0 where
  pub tree : map bare_form l.done ≡ map (form_under (becomes l.change)) (take l.f-index l.all)
  pub made : l.bank.made ≤ l.fn.bank.made + sum (map (remade_in_form (cost l.change)) (take l.f-index l.all))
  pub extends : Extends l.fn.bank l.bank
  pub belongs : All (Belongs l.bank) (terms_of l.done)

abbrev pub invariant-changed_forms-loop-f : goal.invariant-changed_forms-loop-f
invariant-changed_forms-loop-f = Kept
