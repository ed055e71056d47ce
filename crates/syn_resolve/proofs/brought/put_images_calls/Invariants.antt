use Rattle.std.proofs.Common.{◌≡◌, ◌++◌, take}
use Rattle.std.specs.List.{flat_map}
use Rattle.syn_resolve.specs.inner.Reflexing.{image_calls}
use Rattle.syn_resolve.proofs.brought.put_images_calls.Given as goal

abbrev pub invariant-loop-v : goal.invariant-loop-v
invariant-loop-v l = l.calls ≡ l.initial.calls ++ flat_map (image_calls l.f l.s) (take l.v-index l.vars)
