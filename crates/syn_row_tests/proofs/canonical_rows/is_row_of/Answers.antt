use Rattle.syn_row_cases.proofs.Owning.{still}
use Rattle.syn_row_tests.proofs.canonical_rows.is_row_of.Goals as goal

pub is_one-requires-clause-row : goal.is_one-requires-clause-row
is_one-requires-clause-row c = still _ _ _ c.in_ok-other.ensures.extends c.requires
