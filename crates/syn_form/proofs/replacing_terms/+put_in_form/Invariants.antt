use Rattle.std.proofs.Common.{length}
use Rattle.syn_form.proofs.replacing_terms.+put_in_form.Given as goal

abbrev pub decreases-put_in_form : goal.decreases-put_in_form
decreases-put_in_form l = length l.path.now
