use Rattle.std.proofs.Common.{◌≡◌, ◌++◌, take}
use Rattle.syn_unify.specs.inner.Solutions.{paired}
use Rattle.syn_unify.proofs.pairs.put_pairs.Given as goal

abbrev pub invariant-loop-i : goal.invariant-loop-i
invariant-loop-i l = l.left ≡ l.fn.left ++ paired (take l.i l.xs) (take l.i l.ys)
