use Rattle.std.proofs.Common.{◌≡◌, ◌≤◌, length, map, drop}
use Rattle.std.specs.List.{list_all}
use Rattle.syn_value.specs.Values.{is_of_sort, parts_fit}
use Rattle.syn_value.specs.inner.Nodes.{items}
use Rattle.syn_value.specs.declared.nodes.Seq.{size-Seq}
use Rattle.syn_value.proofs.sorting.+sorting.Given as goal

abbrev pub decreases-is_of_sort : goal.decreases-is_of_sort
decreases-is_of_sort l = goal.size-is_of_sort l

abbrev pub decreases-items_fit : goal.decreases-items_fit
decreases-items_fit l = goal.size-items_fit l

abbrev pub decreases-parts_fit : goal.decreases-parts_fit
decreases-parts_fit l = goal.size-parts_fit l

abbrev pub invariant-items_fit-loop-rest : goal.invariant-items_fit-loop-rest
invariant-items_fit-loop-rest l = (size-Seq l.rest ≤ size-Seq l.fn.seq) × (list_all (λ v. is_of_sort l.syms v l.item) (items l.rest) ≡ list_all (λ v. is_of_sort l.syms v l.item) (items l.fn.seq))

abbrev pub invariant-parts_fit-loop-part : goal.invariant-parts_fit-loop-part
invariant-parts_fit-loop-part l = (size-Seq l.rest ≤ size-Seq l.fn.seq) × ((l.i ≤ length l.sorts) × (parts_fit (map (is_of_sort l.syms) (items l.rest)) (drop l.i l.sorts) ≡ parts_fit (map (is_of_sort l.syms) (items l.fn.seq)) l.sorts))
