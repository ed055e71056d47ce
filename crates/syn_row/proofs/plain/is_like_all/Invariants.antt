use Rattle.std.proofs.Common.{All, take}
use Rattle.syn_row.specs.inner.Renumbering.{AreLike}
use Rattle.syn_row.proofs.plain.is_like_all.Given as goal

abbrev pub invariant-loop-w : goal.invariant-loop-w
invariant-loop-w l = All (AreLike l.v) (take l.w-index l.vars)
