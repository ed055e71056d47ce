use Rattle.syn_value.proofs.SortCases.{number_fits, no_list_fits, list_fits, no_tuple_fits, tuple_fits}
use Rattle.syn_value.proofs.sorting.+sorting.Goals as goal

pub is_of_sort-returns-in-Num : goal.is_of_sort-returns-in-Num
is_of_sort-returns-in-Num t c = number_fits c.args.syms.now c.args.sort _ _ _ c.in-Num.is c.is_number_sort.ensures

pub is_of_sort-returns-in-None : goal.is_of_sort-returns-in-None
is_of_sort-returns-in-None t c = no_list_fits c.args.syms.now c.args.sort _ _ _ c.in-List.is c.item_sort.ensures c.in-None.is

pub is_of_sort-returns-in-Some : goal.is_of_sort-returns-in-Some
is_of_sort-returns-in-Some t c = list_fits c.args.syms.now c.args.sort _ _ _ _ _ c.in-List.is c.item_sort.ensures c.in-Some.is c.items_fit.ensures

pub is_of_sort-returns-in-None-part_sorts : goal.is_of_sort-returns-in-None-part_sorts
is_of_sort-returns-in-None-part_sorts t c = no_tuple_fits c.args.syms.now c.args.sort _ _ _ c.in-Tuple.is c.part_sorts.ensures c.in-None-part_sorts.is

pub is_of_sort-returns-in-Some-part_sorts : goal.is_of_sort-returns-in-Some-part_sorts
is_of_sort-returns-in-Some-part_sorts t c = tuple_fits c.args.syms.now c.args.sort _ _ _ _ _ c.in-Tuple.is c.part_sorts.ensures c.in-Some-part_sorts.is c.parts_fit.ensures
