use Rattle.std.proofs.Common.{◌∙◌, sym, subst}
use Rattle.syn_term.specs.Symbols.{SymbolTable}
use Rattle.syn_model.specs.inner.HeadTables.{MayAddHead}
use Rattle.syn_model.proofs.HeadTableLaws.{head_fits}
use Rattle.syn_model.proofs.head_table.head_table.Goals as goal

pub enter_head-requires-clause-may : goal.enter_head-requires-clause-may
enter_head-requires-clause-may c = subst (λ (t : SymbolTable). MayAddHead t c.args.head.now) (sym (c.in_ok-syms.ensures.same ∙ c.symbols.ensures.table)) (head_fits _ _ c.requires.0 c.requires.1)
