use Rattle.std.proofs.Common.{◌≤◌, ◌-◌, length}
use Rattle.syn_eval.proofs.entries.count.Given as goal

abbrev pub invariant-loop-id : goal.invariant-loop-id
invariant-loop-id l = l.id ≤ length l.symbols.syms

abbrev pub decreases-loop-id : goal.decreases-loop-id
decreases-loop-id l = length l.symbols.syms - l.id
