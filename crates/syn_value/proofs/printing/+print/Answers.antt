use Rattle.syn_value.proofs.Printed.{items_put, list_put, number_put, on_ok, tuple_put}
use Rattle.syn_value.proofs.printing.+print.Goals as goal

pub put_items-returns-in-None : goal.put_items-returns-in-None
put_items-returns-in-None t c =
    on_ok c.put-in-None.result _ _ (items_put _ _ _ _ _ _ _ _ _ c.in-None.ensures.parts c.in_ok-put.ensures c.loop-out.invariant.1) c.put-in-None.ensures

pub put_node-returns-in-Num : goal.put_node-returns-in-Num
put_node-returns-in-Num t c = on_ok c.put_number.result _ _ (number_put c.args.node.now c.in-Num.n _ _ c.in-Num.is) c.put_number.ensures

pub put_node-returns-in-List : goal.put_node-returns-in-List
put_node-returns-in-List t c = on_ok c.put_items.result _ _ (list_put c.args.node.now c.in-List.seq _ _ c.in-List.is) c.put_items.ensures

pub put_node-returns-in-Tuple : goal.put_node-returns-in-Tuple
put_node-returns-in-Tuple t c = on_ok c.put_items-in-Tuple.result _ _ (tuple_put c.args.node.now c.in-Tuple.seq _ _ c.in-Tuple.is) c.put_items-in-Tuple.ensures
