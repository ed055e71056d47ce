use Rattle.std.proofs.Common.{◌≤◌, All, take}
use Rattle.syn_form.specs.Trees.{out_depth}
use Rattle.syn_row.specs.Results.{most_step_depth}
use Rattle.syn_row.proofs.weighing.are_shallow_outs.Given as goal

abbrev pub invariant-loop-o : goal.invariant-loop-o
invariant-loop-o l = All (λ x. out_depth x ≤ most_step_depth) (take l.o-index l.outs)
