use Rattle.std.proofs.Common.{◌≡◌, ◌≤◌, ◌+◌, ◌*◌, All, map, sum, take}
use Rattle.syn_term.specs.Bank.{Belongs, Extends}
use Rattle.syn_form.specs.Inputs.{form_with_inputs, terms_size}
use Rattle.syn_form.specs.inner.Joining.{terms_of}
use Rattle.syn_form.specs.Trees.{bare_form, form_nodes}
use Rattle.syn_form.proofs.inputs.+forms.Given as goal

abbrev pub decreases-put_in_form : goal.decreases-put_in_form
decreases-put_in_form l = 3 * form_nodes l.f.now

abbrev pub decreases-put_in_sides : goal.decreases-put_in_sides
decreases-put_in_sides l = 3 * (form_nodes l.a.now + form_nodes l.b.now) + 1

abbrev pub decreases-put_in_chain : goal.decreases-put_in_chain
decreases-put_in_chain l = 3 * sum (map form_nodes l.fs.now) + 2

abbrev pub decreases-put_in_forms : goal.decreases-put_in_forms
decreases-put_in_forms l = 3 * sum (map form_nodes l.fs.now) + 1

pub record Kept (l : goal.Live-put_in_forms-loop-f) : Type 0 where
  pub tree : map bare_form l.done ≡ map bare_form (map (form_with_inputs l.inputs) (take l.f-index l.fs))
  pub made : l.bank.made ≤ l.fn.bank.made + sum (map terms_size (take l.f-index l.fs))
  pub extends : Extends l.fn.bank l.bank
  pub belongs : All (Belongs l.bank) (terms_of l.done)

abbrev pub invariant-put_in_forms-loop-f : goal.invariant-put_in_forms-loop-f
invariant-put_in_forms-loop-f = Kept
