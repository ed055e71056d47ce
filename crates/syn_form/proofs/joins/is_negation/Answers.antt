use Rattle.syn_form.proofs.Members.{no_negation, is_negation}
use Rattle.syn_form.proofs.joins.is_negation.Goals as goal

pub returns-in-None : goal.returns-in-None
returns-in-None c = no_negation _ _ c.in-None.ensures

pub returns-in-Some : goal.returns-in-Some
returns-in-Some c = is_negation _ _ _ _ c.in-Some.ensures c.is_same.ensures
