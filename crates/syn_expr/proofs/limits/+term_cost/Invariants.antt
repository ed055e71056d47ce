use Rattle.std.proofs.Common.{◌≡◌, ◌+◌, min, take}
use Rattle.std.specs.List.{sum_by}
use Rattle.syn_expr.specs.Limits.{term_cost}
use Rattle.syn_expr.proofs.limits.+term_cost.Given as goal

abbrev pub invariant-loop-arg : goal.invariant-loop-arg
invariant-loop-arg l = l.total ≡ min (1 + sum_by term_cost (take l.arg-index l.arg-items)) (l.cap + 1)
