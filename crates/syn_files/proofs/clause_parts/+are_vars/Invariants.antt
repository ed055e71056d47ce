use Rattle.std.proofs.Common.{length}
use Rattle.syn_files.proofs.clause_parts.+are_vars.Given as goal

abbrev pub decreases-are_vars : goal.decreases-are_vars
decreases-are_vars l = length l.vars.now
