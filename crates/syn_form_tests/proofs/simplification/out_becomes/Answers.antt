use Rattle.syn_form.proofs.Banks.{first_of}
use Rattle.syn_form_tests.proofs.Over.{simple_owned}
use Rattle.syn_form_tests.proofs.simplification.out_becomes.Goals as goal

pub simplify_out-requires : goal.simplify_out-requires
simplify_out-requires c = first_of _ _ c.requires

pub same-requires : goal.same-requires
same-requires c = simple_owned _ _ _ c.in_ok-simplify_out.ensures.laws.terms c.requires
