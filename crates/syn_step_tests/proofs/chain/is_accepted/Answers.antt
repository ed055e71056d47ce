use Rattle.syn_replay.proofs.RowsOfLines.{rule_still}
use Rattle.syn_step_tests.proofs.chain.is_accepted.Goals as goal

pub check-requires-clause-rule : goal.check-requires-clause-rule
check-requires-clause-rule c = rule_still _ _ _ c.in_ok-d.ensures.extends c.requires
