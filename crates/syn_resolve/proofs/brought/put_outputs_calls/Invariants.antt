use Rattle.std.proofs.Common.{◌≡◌, ◌++◌, take}
use Rattle.std.specs.List.{flat_map}
use Rattle.syn_resolve.specs.inner.Reflexing.{output_calls}
use Rattle.syn_resolve.proofs.brought.put_outputs_calls.Given as goal

abbrev pub invariant-loop-out : goal.invariant-loop-out
invariant-loop-out l = l.calls ≡ l.initial.calls ++ flat_map (output_calls l.f l.s) (take l.out-index l.outs)
