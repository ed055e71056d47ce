use Rattle.std.proofs.Common.{length}
use Rattle.syn_form.proofs.trees.Form.+find.Given as goal

abbrev pub decreases-find : goal.decreases-find
decreases-find l = length l.path.now
