use Rattle.std.proofs.Common.{refl}
use Rattle.syn_form.specs.Same.{OfOneBank-from}
use Rattle.syn_row.specs.Rows.{row_terms}
use Rattle.syn_replay.proofs.OneStep.{line_follows}
use Rattle.syn_replay.proofs.RowsOfLines.{is_simplified, row_simplified}
use Rattle.syn_replay.proofs.following.take_line.Goals as goal

pub simplified-requires : goal.simplified-requires
simplified-requires c = OfOneBank-from c.args.bank.now (row_terms c.args.written.now) c.requires.row.belongs

pub follows-requires-clause-row : goal.follows-requires-clause-row
follows-requires-clause-row c = row_simplified c.args.start.now c.args.bank.now c.args.written.now c.in_ok-row.row c.in_ok-row.ensures c.requires.row

pub follows-requires-clause-simplified : goal.follows-requires-clause-simplified
follows-requires-clause-simplified c = is_simplified c.args.written.now c.in_ok-row.row c.in_ok-row.ensures

pub returns-in_ok-push-in-Ok-true-clause-follows : goal.returns-in_ok-push-in-Ok-true-clause-follows
returns-in_ok-push-in-Ok-true-clause-follows c =
    let h = line_follows c.args.start.now c.args.rows.now c.as_slice.result.now c.args.step.now c.args.written.now c.in_ok-row.row c.in-Ok-true.field-0 c.as_slice.ensures c.in_ok-row.ensures c.in-Ok-true.ensures.follows in
    ((λ t. h.0 c.in-Ok-true.field-0-test), (λ k. refl))
