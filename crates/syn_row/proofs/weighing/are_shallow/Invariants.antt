use Rattle.std.proofs.Common.{◌≤◌, All, take}
use Rattle.syn_form.specs.Trees.{form_depth}
use Rattle.syn_row.specs.Results.{most_step_depth}
use Rattle.syn_row.proofs.weighing.are_shallow.Given as goal

abbrev pub invariant-loop-f : goal.invariant-loop-f
invariant-loop-f l = All (λ x. form_depth x ≤ most_step_depth) (take l.f-index l.forms)
