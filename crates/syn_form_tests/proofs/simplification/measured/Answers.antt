use Rattle.syn_form_tests.proofs.Over.{no_terms, none_owned, simple_owned}
use Rattle.syn_form_tests.proofs.simplification.measured.Goals as goal

pub simplify-requires : goal.simplify-requires
simplify-requires c = no_terms _ c.requires

pub same-same-requires : goal.same-same-requires
same-same-requires c = simple_owned _ _ _ c.in_ok-simple.ensures.laws.terms (none_owned _ _ c.requires c.requires)
