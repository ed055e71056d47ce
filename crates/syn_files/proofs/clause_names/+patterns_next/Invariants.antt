use Rattle.std.proofs.Common.{length}
use Rattle.syn_files.proofs.clause_names.+patterns_next.Given as goal

abbrev pub decreases-patterns_next : goal.decreases-patterns_next
decreases-patterns_next l = length l.patterns.now
