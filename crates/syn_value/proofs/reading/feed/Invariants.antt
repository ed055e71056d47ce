use Rattle.std.proofs.Common.{◌≡◌, ◌≤◌, Some, length, drop}
use Rattle.syn_value.specs.inner.Machine.{read, state_at}
use Rattle.syn_value.proofs.reading.feed.Given as goal

-- what was read of the text from the place on
abbrev pub invariant-loop-at : goal.invariant-loop-at
invariant-loop-at l = (l.at ≤ l.end) × ((l.end ≤ length l.bytes) × (Some (state_at l.reader l.bytes l.at l.end) ≡ read (drop l.at l.bytes)))

abbrev pub decreases-loop-at : goal.decreases-loop-at
decreases-loop-at l = l.at
