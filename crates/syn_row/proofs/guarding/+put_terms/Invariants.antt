use Rattle.std.proofs.Common.{length}
use Rattle.syn_row.proofs.guarding.+put_terms.Given as goal

-- the rest is shorter
abbrev pub decreases-put_terms : goal.decreases-put_terms
decreases-put_terms l = length l.terms.now
