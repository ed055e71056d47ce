use Rattle.std.proofs.Common.{sym, ◌∙◌}
use Rattle.syn_form.specs.Plain.{IsSorted}
use Rattle.syn_form.proofs.Deciding.{all_more, all_whole, fails, holds, not_all, same_fact, unless_first, when_first}
use Rattle.syn_form.proofs.SortedTerms.{application_sorted, variable_sorted}
use Rattle.syn_form.proofs.terms.+terms.Goals as goal

pub are_sorted-returns-then-not-is_sorted : goal.are_sorted-returns-then-not-is_sorted
are_sorted-returns-then-not-is_sorted t c = fails (not_all (IsSorted c.args.syms.now) _ _ _ _ c.loop-t-test.true c.t-item.is c.is_sorted.ensures c.if-not-is_sorted.true)

pub are_sorted-loop-t-preserved : goal.are_sorted-loop-t-preserved
are_sorted-loop-t-preserved t c = all_more (IsSorted c.args.syms.now) _ _ _ _ c.loop-t-test.true c.t-item.is c.is_sorted.ensures c.if-not-is_sorted.false c.loop-t.invariant

pub are_sorted-returns : goal.are_sorted-returns
are_sorted-returns t c = holds (all_whole (IsSorted c.args.syms.now) _ _ c.loop-t-test.false c.loop-t.invariant)

pub is_sorted-returns-in-Var : goal.is_sorted-returns-in-Var
is_sorted-returns-in-Var t c = same_fact (variable_sorted _ _ _ _ (sym c.get.ensures ∙ c.in-Var.is)) c.is_sort.ensures

pub is_sorted-returns-then-makes_sorted : goal.is_sorted-returns-then-makes_sorted
is_sorted-returns-then-makes_sorted t c = when_first (application_sorted _ _ _ _ _ _ _ (sym c.get.ensures ∙ c.in-App.is) c.as_slice.ensures c.as_slice-then-makes_sorted.ensures) c.makes_sorted.ensures c.if-makes_sorted.true c.are_sorted.ensures

pub is_sorted-returns-else-makes_sorted : goal.is_sorted-returns-else-makes_sorted
is_sorted-returns-else-makes_sorted t c = unless_first (application_sorted _ _ _ _ _ _ _ (sym c.get.ensures ∙ c.in-App.is) c.as_slice.ensures c.as_slice.ensures) c.makes_sorted.ensures c.if-makes_sorted.false
