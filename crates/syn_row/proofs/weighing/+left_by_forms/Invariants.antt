use Rattle.std.proofs.Common.{length}
use Rattle.syn_row.proofs.weighing.+left_by_forms.Given as goal

-- the rest is shorter
abbrev pub decreases-left_by_forms : goal.decreases-left_by_forms
decreases-left_by_forms l = length l.forms.now
