use Rattle.syn_form_tests.proofs.Over.{none_owned}
use Rattle.syn_form_tests.proofs.formulas.compared.Goals as goal

pub same-requires : goal.same-requires
same-requires c = none_owned _ _ c.requires.first c.requires.second
