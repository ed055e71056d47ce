use Rattle.syn_form_tests.proofs.Over.{pair_owned}
use Rattle.syn_form_tests.proofs.codes.make_pair.Goals as goal

pub returns : goal.returns
returns c = pair_owned _ _ _ _ c.in_ok-a.ensures.belongs c.in_ok-b.ensures.extends c.in_ok-b.ensures.belongs
