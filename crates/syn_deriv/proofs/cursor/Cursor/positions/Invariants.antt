use Rattle.std.proofs.Common.{◌≡◌, ◌++◌, length}
use Rattle.std.specs.Option.{option_map}
use Rattle.syn_deriv.specs.inner.Firsts.{got}
use Rattle.syn_deriv.specs.inner.StepReading.{positions_first}
use Rattle.syn_deriv.proofs.cursor.Cursor.positions.Given as goal

-- what is still read goes behind what was read
abbrev pub invariant-loop-positions : goal.invariant-loop-positions
invariant-loop-positions l = option_map (λ g. got (l.positions ++ g.value) g.left) (positions_first l.self.left) ≡ positions_first l.fn.self.left

abbrev pub decreases-loop-positions : goal.decreases-loop-positions
decreases-loop-positions l = length l.self.left
