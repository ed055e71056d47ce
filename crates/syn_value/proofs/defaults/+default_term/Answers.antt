use Rattle.std.proofs.Common.{◌+◌, ◌*◌, ◌<◌, ◌≤◌, slice_index_or, arith}
use Rattle.syn_term.specs.Bank.{Extends-trans}
use Rattle.syn_term.specs.DeclaredSorts.{shape_of_sort}
use Rattle.syn_term.specs.declared.sorts.Sort.TheVariants.{Nat}
use Rattle.syn_value.proofs.DefaultLaws.{highest, list_told, parts_lower, parts_there, rank, rank_at, tuple_told}
use Rattle.syn_value.proofs.DefaultTerms.{list_tree, made_more, made_none, tuple_tree, zero_may}
use Rattle.syn_value.proofs.defaults.+default_term.Goals as goal

pub default_args-loop-sort-init : goal.default_args-loop-sort-init
default_args-loop-sort-init t c = (omega arith, made_none c.args.bank.now c.args.syms.now c.new-made.result c.args.sorts.now c.new-made.ensures)

pub default_args-default_term-requires : goal.default_args-default_term-requires
default_args-default_term-requires t c =
    let low : rank (slice_index_or c.args.sorts.now c.loop-sort.sort-index Nat) ≤ highest c.args.sorts.now = rank_at c.args.sorts.now c.loop-sort.sort-index Nat c.loop-sort-test.true in
    let less : 2 * rank (slice_index_or c.args.sorts.now c.loop-sort.sort-index Nat) < t = omega arith in
    (less, c.requires c.loop-sort.sort-index Nat c.loop-sort-test.true)

pub default_args-returns-in_err-push-in-Ok-clause-extends : goal.default_args-returns-in_err-push-in-Ok-clause-extends
default_args-returns-in_err-push-in-Ok-clause-extends t c =
    Extends-trans c.args.bank.now c.loop-sort.bank c.default_term.new.bank c.loop-sort.invariant.1.extends c.default_term.ensures.extends

pub default_args-returns-in-Err-clause-extends : goal.default_args-returns-in-Err-clause-extends
default_args-returns-in-Err-clause-extends t c =
    Extends-trans c.args.bank.now c.loop-sort.bank c.default_term.new.bank c.loop-sort.invariant.1.extends c.default_term.ensures.extends

pub default_args-loop-sort-preserved : goal.default_args-loop-sort-preserved
default_args-loop-sort-preserved t c =
    (omega (arith, c.loop-sort-test.true), made_more c.args.bank.now c.loop-sort.bank c.default_term.new.bank c.args.syms.now c.loop-sort.made c.push.new.self c.in-Ok.term c.args.sorts.now c.loop-sort.sort-index Nat c.loop-sort.invariant.1 c.loop-sort-test.true c.in-Ok.ensures.tree c.in-Ok.ensures.sort c.default_term.ensures.extends c.in-Ok.ensures.belongs c.in_ok-push-in-Ok.ensures.ok)

pub default_term-applied-requires-clause-may : goal.default_term-applied-requires-clause-may
default_term-applied-requires-clause-may t c = zero_may c.args.syms.now c.shape.ensures.table

pub default_term-default_args-requires : goal.default_term-default_args-requires
default_term-default_args-requires t c =
    let told = tuple_told (shape_of_sort c.args.syms.now c.args.sort) _ _ _ c.as_slice.result.now c.in-Some-Tuple.ensures.shape c.in-Some-Tuple.field-0-is c.as_slice.ensures in
    let low : highest c.as_slice.result.now < rank c.args.sort = parts_lower c.args.syms.now c.args.sort _ c.as_slice.result.now c.shape.ensures.table told in
    let less : 2 * highest c.as_slice.result.now + 1 < t = omega arith in
    (less, parts_there c.args.syms.now c.args.sort _ c.as_slice.result.now c.shape.ensures.table c.requires told)

pub default_term-returns-in-Some-List-clause-tree : goal.default_term-returns-in-Some-List-clause-tree
default_term-returns-in-Some-List-clause-tree t c =
    let told = list_told (shape_of_sort c.args.syms.now c.args.sort) _ _ _ _ c.in-Some-List.ensures.shape c.in-Some-List.field-0-is in
    list_tree c.args.syms.now c.args.sort _ _ _ c.applied-in-Some-List.result c.shape.ensures.table told c.applied-in-Some-List.ensures.tree

pub default_term-returns-in_ok-args-in-Some-Tuple-clause-tree : goal.default_term-returns-in_ok-args-in-Some-Tuple-clause-tree
default_term-returns-in_ok-args-in-Some-Tuple-clause-tree t c =
    let told = tuple_told (shape_of_sort c.args.syms.now c.args.sort) _ _ _ c.as_slice.result.now c.in-Some-Tuple.ensures.shape c.in-Some-Tuple.field-0-is c.as_slice.ensures in
    tuple_tree c.args.syms.now c.args.sort _ _ c.in_ok-args-in-Some-Tuple.args c.as_slice-in-Some-Tuple.result.now c.applied-made.result c.shape.ensures.table told c.as_slice-in-Some-Tuple.ensures c.in_ok-args-in-Some-Tuple.ensures.tree c.applied-made.ensures.tree

pub default_term-returns-in_ok-args-in-Some-Tuple-clause-extends : goal.default_term-returns-in_ok-args-in-Some-Tuple-clause-extends
default_term-returns-in_ok-args-in-Some-Tuple-clause-extends t c =
    Extends-trans c.args.bank.now c.default_args.new.bank c.applied-made.new.bank c.default_args.ensures.extends c.applied-made.ensures.extends
