use Rattle.std.proofs.Common.{◌≡◌, ◌++◌, None, length}
use Rattle.std.specs.Option.{option_map}
use Rattle.syn_files.specs.inner.SpecWords.{names_on}
use Rattle.syn_files.proofs.spec_lines.names_on.Given as goal

-- what is still read goes behind what was read
abbrev pub invariant-loop-name : goal.invariant-loop-name
invariant-loop-name l = option_map (λ names. l.names ++ names) (names_on None l.cursor.left) ≡ names_on None l.fn.cursor.left

abbrev pub decreases-loop-name : goal.decreases-loop-name
decreases-loop-name l = length l.cursor.left
