use Rattle.syn_form_tests.proofs.Over.{two_owned}
use Rattle.syn_form_tests.proofs.codes.Pair.last_becomes.Goals as goal

pub becomes-right-requires : goal.becomes-right-requires
becomes-right-requires c = two_owned c.args.self.now _ _ c.in-Ok.ensures.form c.in_ok-want.ensures.form c.requires.bank
