use Rattle.std.proofs.Common.{◌≡◌, ◌-◌, ◌≤◌, length, take}
use Rattle.syn_outside.specs.Texts.{Adds}
use Rattle.syn_outside.proofs.whole.put_all.Given as goal

-- The bytes done stand in the text, and before the first no call was made.
abbrev pub invariant-loop-done : goal.invariant-loop-done
invariant-loop-done g l = record {
  within : l.done ≤ length l.bytes;
  adds : Adds (g.S.Sink.text l.initial.sink) (g.S.Sink.text l.sink) (take l.done l.bytes);
  later : g.S.Sink.faults l.initial.sink ≤ g.S.Sink.faults l.sink;
  quiet : g.S.Sink.faults l.sink ≡ g.S.Sink.faults l.initial.sink;
  same : l.done ≡ 0 → l.sink ≡ l.initial.sink;
}

-- The bytes that are left.
abbrev pub decreases-loop-done : goal.decreases-loop-done
decreases-loop-done g l = length l.bytes - l.done
