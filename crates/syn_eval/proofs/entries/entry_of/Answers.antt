use Rattle.syn_eval.proofs.EntryLaws.{order_known}
use Rattle.syn_eval.proofs.entries.entry_of.Goals as goal

pub returns-in-Order : goal.returns-in-Order
returns-in-Order c = order_known _ c.args.decls.now c.args.sym.now c.as_str-in-Order.result.now _ c.plain_entry.ensures c.order_measure.ensures c.as_str-in-Order.ensures c.in-Order.is
