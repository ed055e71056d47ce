use Rattle.syn_row_cases.proofs.Owning.{still}
use Rattle.syn_rule_tests.proofs.replacing.replaced_in.Goals as goal

pub replaced-requires-clause-first : goal.replaced-requires-clause-first
replaced-requires-clause-first c = still _ _ _ c.in_ok-s.ensures.extends c.requires
