use Rattle.std.proofs.Common.{length, ◌-◌}
use Rattle.syn_term.proofs.Copies.{CopiedSizes}
use Rattle.syn_term.proofs.copying.put_sizes.Given as goal

abbrev pub invariant-loop-name : goal.invariant-loop-name
invariant-loop-name l = CopiedSizes l.from.entries l.sizes.entries l.index

abbrev pub decreases-loop-name : goal.decreases-loop-name
decreases-loop-name l = length l.from.entries - l.index
