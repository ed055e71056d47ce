use Rattle.std.proofs.Common.{◌≡◌, ◌+◌, ◌-◌, ◌≤◌, length}
use Rattle.syn_outside.proofs.Turns.{HasTaken}
use Rattle.syn_outside.proofs.whole.take_all.Given as goal

-- Each turn so far took a byte at least, and what was taken is the file's beginning.
abbrev pub invariant-loop-buffer : goal.invariant-loop-buffer
invariant-loop-buffer g l = record {
  turns : l.turns ≤ length l.bytes.items;
  bound : l.turns ≤ l.limit + 1;
  begins : HasTaken (g.C.Cabinet.files l.initial.cab) l.name l.bytes.items;
  files : g.C.Cabinet.files l.cab ≡ g.C.Cabinet.files l.initial.cab;
  writes : g.C.Cabinet.write_faults l.cab ≡ g.C.Cabinet.write_faults l.initial.cab;
  quiet : g.C.Cabinet.read_faults l.cab ≡ g.C.Cabinet.read_faults l.initial.cab;
  later : g.C.Cabinet.read_faults l.initial.cab ≤ g.C.Cabinet.read_faults l.cab;
}

-- The bytes that may still be taken.
abbrev pub decreases-loop-buffer : goal.decreases-loop-buffer
decreases-loop-buffer g l = l.limit + 1 - length l.bytes.items
