use Rattle.syn_form.proofs.InputTerms.{all_still}
use Rattle.syn_form_tests.proofs.replacing.made_by_variable.Goals as goal

pub made_by-requires-clause-form : goal.made_by-requires-clause-form
made_by-requires-clause-form c = all_still _ _ _ c.var.ensures.extends c.requires
