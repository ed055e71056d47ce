use Rattle.std.proofs.Common.{length}
use Rattle.syn_row.proofs.guarding.+put_input_terms.Given as goal

-- the rest is shorter
abbrev pub decreases-put_input_terms : goal.decreases-put_input_terms
decreases-put_input_terms l = length l.inputs.now
