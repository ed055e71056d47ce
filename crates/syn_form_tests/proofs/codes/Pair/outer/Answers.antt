use Rattle.syn_form_tests.proofs.Over.{choice_over, given_first, same_over}
use Rattle.syn_form_tests.proofs.codes.Pair.outer.Goals as goal

pub returns : goal.returns
returns c = choice_over c.args.self.now _ _ _ (same_over c.args.self.now _ _ c.in_ok-f.ensures c.requires.form) c.requires.arm (given_first c.args.self.now _ _ c.in_ok-v.ensures c.in_ok-again.ensures)
