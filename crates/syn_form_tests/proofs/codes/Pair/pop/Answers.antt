use Rattle.syn_form_tests.specs.Over.{IsOver}
use Rattle.syn_form_tests.proofs.Over.{last_one, one_less}
use Rattle.syn_form_tests.proofs.codes.Pair.pop.Goals as goal

pub returns-in-Some-clause-form : goal.returns-in-Some-clause-form
returns-in-Some-clause-form c = last_one (IsOver c.args.self.now) _ _ _ c.in-Some.ensures c.requires

pub returns-in-Some-clause-forms : goal.returns-in-Some-clause-forms
returns-in-Some-clause-forms c = one_less (IsOver c.args.self.now) _ _ _ c.in-Some.ensures c.requires
