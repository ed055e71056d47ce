use Rattle.syn_term.proofs.Copies.{distinct_keys}
use Rattle.syn_term.proofs.symbols.Symbols.copy.Goals as goal

pub copy_tables-requires : goal.copy_tables-requires
copy_tables-requires c = distinct_keys _ _ _ _ c.self.invariant
