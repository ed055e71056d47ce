use Rattle.syn_form.proofs.Banks.{first_of}
use Rattle.syn_form_tests.proofs.Over.{simple_owned}
use Rattle.syn_form_tests.proofs.simplification.becomes.Goals as goal

pub simplify-requires : goal.simplify-requires
simplify-requires c = first_of _ _ c.requires

pub same-requires : goal.same-requires
same-requires c = simple_owned _ _ _ c.in_ok-simplify.ensures.laws.terms c.requires
