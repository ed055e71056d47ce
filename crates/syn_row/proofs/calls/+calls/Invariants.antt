use Rattle.std.proofs.Common.{◌≡◌, ◌+◌, ◌*◌, ◌++◌, take}
use Rattle.std.specs.List.{flat_map}
use Rattle.syn_row.specs.Calls.{calls_standing}
use Rattle.syn_row.proofs.calls.+calls.Given as goal

-- a tree is larger than its parts, and the parts come before each of them
abbrev pub decreases-put_calls : goal.decreases-put_calls
decreases-put_calls l = 2 * goal.size-put_calls l

abbrev pub decreases-put_all_calls : goal.decreases-put_all_calls
decreases-put_all_calls l = 2 * goal.size-put_all_calls l + 1

abbrev pub invariant-put_all_calls-loop-t : goal.invariant-put_all_calls-loop-t
invariant-put_all_calls-loop-t l = l.calls ≡ l.initial.calls ++ flat_map (calls_standing l.f) (take l.t-index l.terms)
