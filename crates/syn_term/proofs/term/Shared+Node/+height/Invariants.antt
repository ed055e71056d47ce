use Rattle.std.proofs.Common.{◌≡◌, ◌-◌, min, map, take}
use Rattle.syn_term.specs.Terms.{depth_of, greatest}
use Rattle.syn_term.proofs.term.Shared+Node.+height.Given as goal

abbrev pub invariant-loop-child : goal.invariant-loop-child
invariant-loop-child l = l.deepest ≡ min (greatest (map depth_of (take l.child-index l.child-items))) (l.most - 1)
