use Rattle.syn_form.proofs.MadeTerms.{belongs_more}
use Rattle.syn_unify_tests.proofs.samples.put_variable.Goals as goal

pub returns-clause-terms : goal.returns-clause-terms
returns-clause-terms c = belongs_more _ _ _ _ _ c.in_ok-var.ensures.extends c.requires c.in_ok-var.ensures.belongs c.in_ok-push.ensures.ok
