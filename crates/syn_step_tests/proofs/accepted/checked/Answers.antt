use Rattle.syn_replay.proofs.RowsOfLines.{rule_still}
use Rattle.syn_step_tests.proofs.accepted.checked.Goals as goal

pub answer-requires-clause-rule : goal.answer-requires-clause-rule
answer-requires-clause-rule c = rule_still _ _ _ c.in_ok-d.ensures.extends c.requires
