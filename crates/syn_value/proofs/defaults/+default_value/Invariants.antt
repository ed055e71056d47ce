use Rattle.std.proofs.Common.{◌≡◌, ◌≤◌, ◌+◌, ◌*◌, length, drop, map}
use Rattle.syn_value.specs.Defaults.{default_value}
use Rattle.syn_value.proofs.DefaultLaws.{highest, rank}
use Rattle.syn_value.proofs.defaults.+default_value.Given as goal

-- a tuple's parts are of sorts below its own
abbrev pub decreases-default_at : goal.decreases-default_at
decreases-default_at l = 2 * rank l.sort

abbrev pub decreases-default_parts : goal.decreases-default_parts
decreases-default_parts l = 2 * highest l.sorts.now + 1

abbrev pub invariant-default_parts-loop-i : goal.invariant-default_parts-loop-i
invariant-default_parts-loop-i l = (l.i ≤ length l.sorts) × (l.made ≡ map (default_value l.syms) (drop l.i l.sorts))

abbrev pub decreases-default_parts-loop-i : goal.decreases-default_parts-loop-i
decreases-default_parts-loop-i l = l.i
