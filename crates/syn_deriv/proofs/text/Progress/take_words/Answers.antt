use Rattle.syn_deriv.proofs.DerivationSteps.{blank_words}
use Rattle.syn_deriv.proofs.text.Progress.take_words.Goals as goal

pub returns-then-is_empty-clause-taken : goal.returns-then-is_empty-clause-taken
returns-then-is_empty-clause-taken c = blank_words _ _ _ (c.is_empty.ensures.0 c.if-is_empty.true)

pub returns-in-None-clause-taken : goal.returns-in-None-clause-taken
returns-in-None-clause-taken c = c.begin.ensures.taken c.args.start.now

pub returns-in-None-clause-rows : goal.returns-in-None-clause-rows
returns-in-None-clause-rows c = c.begin.ensures.rows c.args.start.now c.args.bank.now
