use Rattle.syn_row_cases.proofs.Owning.{still}
use Rattle.syn_rule_tests.proofs.resolving.resolved_with.Goals as goal

pub resolvent-requires-clause-first : goal.resolvent-requires-clause-first
resolvent-requires-clause-first c = still _ _ _ c.in_ok-s.ensures.extends c.requires
