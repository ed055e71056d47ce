use Rattle.std.proofs.Common.{◌≡◌, ◌+◌, min, take}
use Rattle.std.specs.List.{sum_by}
use Rattle.syn_term.specs.Terms.{nodes}
use Rattle.syn_term.proofs.term.Shared+Node.+count.Given as goal

abbrev pub decreases-count : goal.decreases-count
decreases-count l = goal.size-count l

abbrev pub invariant-loop-child : goal.invariant-loop-child
invariant-loop-child l = l.total ≡ min (1 + sum_by nodes (take l.child-index l.child-items)) l.most
