use Rattle.syn_start.specs.Rows.{IsRowOf}
use Rattle.syn_step_tests.proofs.Replays.{rows_have}
use Rattle.syn_step_tests.proofs.given.given_behind.Goals as goal

pub given_over-requires-clause-rows : goal.given_over-requires-clause-rows
given_over-requires-clause-rows c = rows_have (IsRowOf c.args.start.now c.args.bank.now) c.args.lines.now _ _ c.as_slice.ensures c.in_ok-rows.ensures c.requires.lines
