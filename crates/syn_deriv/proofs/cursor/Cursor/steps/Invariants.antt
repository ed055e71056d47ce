use Rattle.std.proofs.Common.{◌≡◌, ◌++◌, true, length}
use Rattle.std.specs.Option.{option_map}
use Rattle.syn_deriv.specs.inner.Firsts.{got}
use Rattle.syn_deriv.specs.inner.StepReading.{steps_on}
use Rattle.syn_deriv.proofs.cursor.Cursor.steps.Given as goal

-- what is still read goes behind what was read
abbrev pub invariant-loop-number : goal.invariant-loop-number
invariant-loop-number l = option_map (λ g. got (l.steps ++ g.value) g.left) (steps_on true l.self.left) ≡ steps_on true l.fn.self.left

abbrev pub decreases-loop-number : goal.decreases-loop-number
decreases-loop-number l = length l.self.left
