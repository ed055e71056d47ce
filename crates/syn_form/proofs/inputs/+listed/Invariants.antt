use Rattle.std.proofs.Common.{length}
use Rattle.syn_form.proofs.inputs.+listed.Given as goal

abbrev pub decreases-listed : goal.decreases-listed
decreases-listed l = length l.inputs.now
