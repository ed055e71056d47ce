use Rattle.std.proofs.Common.{◌≡◌, ◌≤◌, ◌+◌, ◌*◌, All, map, sum, take}
use Rattle.syn_term.specs.Bank.{Belongs, Extends}
use Rattle.syn_form.specs.Inputs.{terms_size}
use Rattle.syn_form.specs.inner.Joining.{terms_of}
use Rattle.syn_form.specs.Trees.{bare_form, form_nodes}
use Rattle.syn_row.specs.inner.Renumbering.{renumbered_form}
use Rattle.syn_row.proofs.renumbering.+forms.Given as goal

abbrev pub decreases-renumber_form : goal.decreases-renumber_form
decreases-renumber_form l = 3 * form_nodes l.f.now

abbrev pub decreases-renumber_negation : goal.decreases-renumber_negation
decreases-renumber_negation l = 3 * form_nodes l.a.now + 1

abbrev pub decreases-renumber_implication : goal.decreases-renumber_implication
decreases-renumber_implication l = 3 * (form_nodes l.a.now + form_nodes l.b.now) + 1

abbrev pub decreases-renumber_forms : goal.decreases-renumber_forms
decreases-renumber_forms l = 3 * sum (map form_nodes l.all.now) + 1

pub record Kept (l : goal.Live-renumber_forms-loop-f) : Type 0 where
  pub tree : map bare_form l.done ≡ map bare_form (map (renumbered_form l.first l.vars) (take l.f-index l.all))
  pub made : l.bank.made ≤ l.fn.bank.made + sum (map terms_size (take l.f-index l.all))
  pub extends : Extends l.fn.bank l.bank
  pub belongs : All (Belongs l.bank) (terms_of l.done)

abbrev pub invariant-renumber_forms-loop-f : goal.invariant-renumber_forms-loop-f
invariant-renumber_forms-loop-f = Kept
