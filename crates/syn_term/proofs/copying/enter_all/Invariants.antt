use Rattle.std.proofs.Common.{length, ◌-◌}
use Rattle.std.specs.Map.{values_of}
use Rattle.syn_term.proofs.Copies.{Copied}
use Rattle.syn_term.proofs.copying.enter_all.Given as goal

abbrev pub invariant-loop-sym : goal.invariant-loop-sym
invariant-loop-sym l = Copied (values_of l.from.entries) l.by_name.entries l.index

abbrev pub decreases-loop-sym : goal.decreases-loop-sym
decreases-loop-sym l = length l.from.entries - l.index
