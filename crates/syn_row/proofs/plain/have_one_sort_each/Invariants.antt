use Rattle.std.proofs.Common.{All, take}
use Rattle.syn_row.specs.inner.Renumbering.{AreLike}
use Rattle.syn_row.proofs.plain.have_one_sort_each.Given as goal

abbrev pub invariant-loop-v : goal.invariant-loop-v
invariant-loop-v l = All (λ v. All (AreLike v) l.vars) (take l.v-index l.vars)
