use Rattle.std.proofs.Common.{◌-◌, length}
use Rattle.syn_eval.proofs.headed.next_heading.Given as goal

abbrev pub decreases-loop-place : goal.decreases-loop-place
decreases-loop-place l = length l.decls - l.place
