use Rattle.syn_form.proofs.Deciding.{other_way, when_two}
use Rattle.syn_model.proofs.OrderLaws.{order_asked}
use Rattle.syn_model.proofs.orders.asks_order.Goals as goal

pub returns-then-are_few : goal.returns-then-are_few
returns-then-are_few c = when_two (other_way (order_asked _ c.args.theory.now.decls c.args.name.now c.args.args.now c.args.measure.now c.symbols.ensures.table)) c.is_otherwise_free.ensures c.if-not-is_otherwise_free.false c.are_few.ensures c.if-are_few.true c.is_measure.ensures
