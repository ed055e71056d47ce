use Rattle.syn_form_tests.proofs.Over.{implies_over, same_over}
use Rattle.syn_form_tests.proofs.codes.Pair.imply.Goals as goal

pub push-requires-clause-form : goal.push-requires-clause-form
push-requires-clause-form c = implies_over c.args.self.now _ _ (same_over c.args.self.now _ _ c.in_ok-a.ensures c.in_ok-pop-2.ensures.form) (same_over c.args.self.now _ _ c.in_ok-b.ensures c.in_ok-pop.ensures.form)
