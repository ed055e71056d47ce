use Rattle.std.proofs.Common.{◌≡◌, ◌++◌, None, length}
use Rattle.std.specs.Option.{option_map}
use Rattle.syn_files.specs.inner.Firsts.{got, sorts_on}
use Rattle.syn_files.proofs.cursor.Cursor.sorts_on.Given as goal

-- what is still read goes behind what was read
abbrev pub invariant-loop-sort : goal.invariant-loop-sort
invariant-loop-sort l = option_map (λ g. got (l.sorts ++ g.value) g.left) (sorts_on l.syms None l.self.left) ≡ sorts_on l.fn.syms None l.fn.self.left

abbrev pub decreases-loop-sort : goal.decreases-loop-sort
decreases-loop-sort l = length l.self.left
