use Rattle.syn_form_tests.proofs.Over.{none_owned}
use Rattle.syn_form_tests.proofs.replacing.replaced.Goals as goal

pub replace_all-requires : goal.replace_all-requires
replace_all-requires c = none_owned _ _ c.requires.first c.requires.second
