use Rattle.syn_replay.proofs.RowsOfLines.{rule_still}
use Rattle.syn_step_tests.proofs.given.given_of.Goals as goal

pub given_last-requires-clause-rule : goal.given_last-requires-clause-rule
given_last-requires-clause-rule c = rule_still _ _ _ c.in_ok-d.ensures.extends c.requires
