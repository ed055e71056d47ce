use Rattle.std.proofs.Common.{sym, subst}
use Rattle.syn_form.specs.Writing.{CanWriteTable}
use Rattle.syn_model.proofs.Written.{theory_written}
use Rattle.syn_model.proofs.theory.Theory.symbols.Goals as goal

pub returns-clause-written : goal.returns-clause-written
returns-clause-written c rows = subst (CanWriteTable rows) (sym c.self.invariant.table_is) (theory_written rows _ c.self.invariant.theory)
