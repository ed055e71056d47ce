use Rattle.syn_form_tests.specs.Over.{IsOver}
use Rattle.syn_form_tests.proofs.Over.{one_more}
use Rattle.syn_form_tests.proofs.codes.Pair.push.Goals as goal

pub returns : goal.returns
returns c = one_more (IsOver c.args.self.now) _ _ _ c.in_ok-push.ensures.ok c.requires.forms c.requires.form
