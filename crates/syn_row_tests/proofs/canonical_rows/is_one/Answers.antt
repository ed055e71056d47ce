use Rattle.syn_row_tests.proofs.Owning.{two_rows}
use Rattle.syn_row_tests.proofs.canonical_rows.is_one.Goals as goal

pub same-requires : goal.same-requires
same-requires c = two_rows _ c.args.row.now c.args.other.now c.requires.row c.requires.other
