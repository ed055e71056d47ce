use Rattle.std.proofs.Common.{◌≡◌, ◌++◌, take}
use Rattle.syn_resolve.proofs.parts.put_forms.Given as goal

abbrev pub invariant-loop-form : goal.invariant-loop-form
invariant-loop-form l = l.parts ≡ l.initial.parts ++ take l.form-index l.forms
