use Rattle.std.proofs.Common.{◌≡◌, ◌+◌, min, map, take}
use Rattle.syn_term.specs.Terms.{greatest}
use Rattle.syn_expr.specs.Limits.{term_levels}
use Rattle.syn_expr.proofs.limits.+term_levels.Given as goal

abbrev pub invariant-loop-arg : goal.invariant-loop-arg
invariant-loop-arg l = l.deepest ≡ min (greatest (map term_levels (take l.arg-index l.arg-items))) (l.cap + 1)
