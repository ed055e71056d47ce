use Rattle.syn_form.proofs.MadeTerms.{belongs_more}
use Rattle.syn_unify_tests.proofs.samples.put_pair.Goals as goal

pub returns-clause-terms : goal.returns-clause-terms
returns-clause-terms c = belongs_more _ _ _ _ _ c.in_ok-t.ensures.extends c.in_ok-a.ensures.terms c.in_ok-t.ensures.belongs c.in_ok-push.ensures.ok
