use Rattle.std.proofs.Common.{None, Some, sym, ◌∙◌, subst}
use Rattle.syn_form.proofs.Numbering.{IsAfter, chain_binders, first_not_after, implication_binders, more_after, not_after, same_after, two_after}
use Rattle.syn_form.proofs.numbers.+numbers.Goals as goal

pub after_qform-returns-in_err-after_qform-in-Implies : goal.after_qform-returns-in_err-after_qform-in-Implies
after_qform-returns-in_err-after_qform-in-Implies t c = subst (IsAfter c.args.next _) (sym c.from_residual.ensures) (same_after _ _ _ None (implication_binders _ _ _ _ _ c.in-Implies.is c.get-in-Implies-2.ensures c.get-in-Implies.ensures) (first_not_after _ _ _ c.in_err-after_qform-in-Implies.ensures))

pub after_qform-returns-in_ok-after_qform-in-Implies : goal.after_qform-returns-in_ok-after_qform-in-Implies
after_qform-returns-in_ok-after_qform-in-Implies t c = same_after _ _ _ _ (implication_binders _ _ _ _ _ c.in-Implies.is c.get-in-Implies-2.ensures c.get-in-Implies.ensures) (two_after _ _ _ _ _ c.in_ok-after_qform-in-Implies.ensures c.after_qform-in-Implies-2.ensures)

pub after_qform-returns-in-And : goal.after_qform-returns-in-And
after_qform-returns-in-And t c = same_after _ _ _ _ (chain_binders _ _ _ c.in-And.is (c.as_slice.ensures ∙ c.get-in-And.ensures)) c.after_qforms.ensures

pub after_qforms-returns-in_err-next : goal.after_qforms-returns-in_err-next
after_qforms-returns-in_err-next t c = subst (IsAfter c.args.first _) (sym c.from_residual.ensures) (not_after _ _ _ c.loop-f-test.true c.f-item.is _ _ c.loop-f.invariant c.in_err-next.ensures)

pub after_qforms-loop-f-preserved : goal.after_qforms-loop-f-preserved
after_qforms-loop-f-preserved t c = more_after _ _ _ c.loop-f-test.true c.f-item.is _ _ (Some c.in_ok-next.next) c.loop-f.invariant c.in_ok-next.ensures
