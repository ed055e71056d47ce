use Rattle.std.proofs.Common.{length}
use Rattle.syn_files.proofs.clause_names.+parts_next.Given as goal

abbrev pub decreases-parts_next : goal.decreases-parts_next
decreases-parts_next l = length l.parts.now
