use Rattle.std.proofs.Common.{◌≡◌, ◌++◌, take}
use Rattle.syn_row.proofs.joining.put_forms.Given as goal

abbrev pub invariant-loop-form : goal.invariant-loop-form
invariant-loop-form l = l.members ≡ l.fn.members ++ take l.form-index l.forms
