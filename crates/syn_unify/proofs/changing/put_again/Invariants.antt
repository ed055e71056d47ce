use Rattle.std.proofs.Common.{◌≡◌, ◌++◌, take}
use Rattle.syn_unify.proofs.changing.put_again.Given as goal

abbrev pub invariant-loop-t : goal.invariant-loop-t
invariant-loop-t l = l.done ≡ l.fn.done ++ take l.t-index l.ts
