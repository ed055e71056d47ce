use Rattle.syn_value_tests.proofs.Present.{present}
use Rattle.syn_value_tests.proofs.texts.is_there.Goals as goal

pub returns-in-Some : goal.returns-in-Some
returns-in-Some c = λ h. present c.args.syms.now c.args.sort _ c.in-Some.ensures.shape
