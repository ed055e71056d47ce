use Rattle.std.proofs.Common.{◌≡◌, map, take}
use Rattle.syn_step_tests.proofs.Replays.{row_of}
use Rattle.syn_step_tests.proofs.given.rows_of.Given as goal

-- the rows of the lines so far
abbrev pub invariant-loop-line : goal.invariant-loop-line
invariant-loop-line l = l.rows ≡ map row_of (take l.line-index l.lines)
