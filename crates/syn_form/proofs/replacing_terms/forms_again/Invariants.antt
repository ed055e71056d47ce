use Rattle.std.proofs.Common.{◌≡◌, take}
use Rattle.syn_form.proofs.replacing_terms.forms_again.Given as goal

abbrev pub invariant-loop-form : goal.invariant-loop-form
invariant-loop-form l = l.items ≡ take l.form-index l.forms
