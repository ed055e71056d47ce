use Rattle.syn_term.specs.Bank.{Belongs-extends}
use Rattle.syn_base_tests.proofs.positions.replaced.Goals as goal

pub replace_at-requires-clause-t : goal.replace_at-requires-clause-t
replace_at-requires-clause-t c = Belongs-extends _ _ _ c.in_ok-new.ensures.extends c.requires
