use Rattle.syn_value.proofs.Alike.{same_lists, same_tuples}
use Rattle.syn_value.proofs.same.+same.Goals as goal

pub same_nodes-returns-in-List-List : goal.same_nodes-returns-in-List-List
same_nodes-returns-in-List-List t c = same_lists _ _ _ _ _ c.in-List-List.is-0 c.in-List-List.is-1 c.same_items.ensures

pub same_nodes-returns-in-Tuple-Tuple : goal.same_nodes-returns-in-Tuple-Tuple
same_nodes-returns-in-Tuple-Tuple t c = same_tuples _ _ _ _ _ c.in-Tuple-Tuple.is-0 c.in-Tuple-Tuple.is-1 c.same_items-in-Tuple-Tuple.ensures
