use Rattle.syn_form_tests.proofs.Over.{choice_over, given_first, given_second, same_out_over, same_over}
use Rattle.syn_form_tests.proofs.codes.Pair.inner.Goals as goal

pub returns : goal.returns
returns c =
    same_out_over c.args.self.now _ _ c.in_ok-new.ensures
    (choice_over c.args.self.now _ _ _ (same_over c.args.self.now _ _ c.in_ok-f.ensures c.requires) (given_first c.args.self.now _ _ c.in_ok-u.ensures c.in_ok-again.ensures) (given_second c.args.self.now _ _ c.in_ok-v.ensures c.in_ok-again-2.ensures))
