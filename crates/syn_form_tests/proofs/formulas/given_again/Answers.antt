use Rattle.syn_form_tests.proofs.Over.{given_owned}
use Rattle.syn_form_tests.proofs.formulas.given_again.Goals as goal

pub same-same-requires : goal.same-same-requires
same-same-requires c = given_owned _ _ _ _ c.requires c.in_ok-again.ensures c.in-Ok.ensures
