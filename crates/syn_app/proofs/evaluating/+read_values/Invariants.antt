use Rattle.std.proofs.Common.{length}
use Rattle.syn_app.proofs.evaluating.+read_values.Given as goal

abbrev pub decreases-read_values : goal.decreases-read_values
decreases-read_values l = length l.inputs.now
