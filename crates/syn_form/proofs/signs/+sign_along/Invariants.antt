use Rattle.std.proofs.Common.{length}
use Rattle.syn_form.proofs.signs.+sign_along.Given as goal

abbrev pub decreases-sign_along : goal.decreases-sign_along
decreases-sign_along l = length l.path.now
