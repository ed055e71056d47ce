use Rattle.std.proofs.Common.{◌+◌, ◌-◌, ◌*◌, ◌<◌, ◌≤◌, length, slice_index_or, sym, ap, ◌∙◌, arith}
use Rattle.syn_term.specs.DeclaredSorts.{shape_of_sort}
use Rattle.syn_term.specs.declared.sorts.Sort.TheVariants.{Nat}
use Rattle.syn_value.specs.declared.tree.ValueTree.TheViews as view
use Rattle.syn_value.specs.Defaults.{making_values}
use Rattle.syn_value.proofs.DefaultLaws.{default_shape, highest, list_told, parts_lower, parts_there, rank, rank_at, tuple_told}
use Rattle.syn_value.proofs.defaults.+default_value.Goals as goal

pub default_at-default_parts-requires : goal.default_at-default_parts-requires
default_at-default_parts-requires t c =
    let told = tuple_told (shape_of_sort c.args.syms.now c.args.sort) _ _ _ c.as_slice.result.now c.in-Some-Tuple.ensures.shape c.in-Some-Tuple.field-0-is c.as_slice.ensures in
    let low : highest c.as_slice.result.now < rank c.args.sort = parts_lower c.args.syms.now c.args.sort _ c.as_slice.result.now c.shape.ensures.table told in
    let less : 2 * highest c.as_slice.result.now + 1 < t = omega arith in
    (less, parts_there c.args.syms.now c.args.sort _ c.as_slice.result.now c.shape.ensures.table c.requires told)

pub default_at-returns-in-Some-List : goal.default_at-returns-in-Some-List
default_at-returns-in-Some-List t c =
    let told = list_told (shape_of_sort c.args.syms.now c.args.sort) _ _ _ _ c.in-Some-List.ensures.shape c.in-Some-List.field-0-is in
    c.list.ensures ∙ (ap view.List c.empty.ensures ∙ sym (default_shape making_values c.args.syms.now c.args.sort _ c.shape.ensures.table told))

pub default_at-returns-in_ok-parts-in-Some-Tuple : goal.default_at-returns-in_ok-parts-in-Some-Tuple
default_at-returns-in_ok-parts-in-Some-Tuple t c =
    let told = tuple_told (shape_of_sort c.args.syms.now c.args.sort) _ _ _ c.as_slice.result.now c.in-Some-Tuple.ensures.shape c.in-Some-Tuple.field-0-is c.as_slice.ensures in
    c.tuple.ensures ∙ (ap view.Tuple c.in_ok-parts-in-Some-Tuple.ensures ∙ sym (default_shape making_values c.args.syms.now c.args.sort _ c.shape.ensures.table told))

pub default_parts-default_at-requires : goal.default_parts-default_at-requires
default_parts-default_at-requires t c =
    let within : c.loop-i.i - 1 < length c.args.sorts.now = omega (arith, c.loop-i-test.true, c.loop-i.invariant.0) in
    let low : rank (slice_index_or c.args.sorts.now (c.loop-i.i - 1) Nat) ≤ highest c.args.sorts.now = rank_at c.args.sorts.now (c.loop-i.i - 1) Nat within in
    let less : 2 * rank (slice_index_or c.args.sorts.now (c.loop-i.i - 1) Nat) < t = omega arith in
    (less, c.requires (c.loop-i.i - 1) Nat within)
