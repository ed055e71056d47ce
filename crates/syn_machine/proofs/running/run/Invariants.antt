use Rattle.std.proofs.Common.{◌+◌, ◌-◌, ◌*◌, ◌≤◌}
use Rattle.syn_eval.specs.inner.Scopes.{HaveRoom}
use Rattle.syn_machine.specs.inner.Steps.{Moves, all_of}
use Rattle.syn_machine.specs.inner.Weights.{turn_weight, weigh}
use Rattle.syn_machine.proofs.running.run.Given as goal

-- what the frames gave at the start, they give after the turns used so far
abbrev pub invariant-loop-frame : goal.invariant-loop-frame
invariant-loop-frame l = (l.left ≤ l.turns) × (Moves (l.turns - l.left) (all_of l.set l.initial.work) (all_of l.set l.work) × HaveRoom l.left l.work.values)

abbrev pub decreases-loop-frame : goal.decreases-loop-frame
decreases-loop-frame l = l.left * turn_weight l.set + weigh l.work.frames
