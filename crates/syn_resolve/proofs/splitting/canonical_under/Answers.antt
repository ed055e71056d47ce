use Rattle.syn_resolve.proofs.PartRows.{handed_row}
use Rattle.syn_resolve.proofs.splitting.canonical_under.Goals as goal

pub returns-clause-row : goal.returns-clause-row
returns-clause-row c = handed_row c.args.row.now c.args.side c.args.form.now c.in_ok-again.field-0 _ c.in_ok-again.ensures c.in_ok-under.ensures _ c.canonical-made.ensures.row
