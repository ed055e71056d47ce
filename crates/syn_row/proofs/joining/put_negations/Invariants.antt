use Rattle.std.proofs.Common.{◌≡◌, ◌++◌, map, take}
use Rattle.syn_form.specs.declared.trees.Form.TheViews as views
use Rattle.syn_row.proofs.joining.put_negations.Given as goal

abbrev pub invariant-loop-form : goal.invariant-loop-form
invariant-loop-form l = l.members ≡ l.fn.members ++ map views.Not (take l.form-index l.forms)
