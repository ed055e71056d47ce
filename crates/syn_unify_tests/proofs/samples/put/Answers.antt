use Rattle.syn_form.proofs.MadeTerms.{belongs_more}
use Rattle.syn_unify_tests.proofs.samples.put.Goals as goal

pub returns-in_ok-push-in-0-clause-terms : goal.returns-in_ok-push-in-0-clause-terms
returns-in_ok-push-in-0-clause-terms c = belongs_more _ _ _ _ _ c.in_ok-t-in-0.ensures.extends c.requires c.in_ok-t-in-0.ensures.belongs c.in_ok-push-in-0.ensures.ok
