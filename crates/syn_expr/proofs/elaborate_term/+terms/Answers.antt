use Rattle.std.proofs.lemmas.Result.{IfOk-weaker}
use Rattle.syn_term.specs.Bank.{Extends-trans}
use Rattle.syn_expr.specs.inner.Places.{spoken_at}
use Rattle.syn_expr.proofs.FormMaking.{item_missing, not_empty}
use Rattle.syn_expr.proofs.Spending.{item_spent, items_spent}
use Rattle.syn_expr.proofs.TermMaking.{argument_made, applied_made, all_belong}
use Rattle.syn_expr.proofs.elaborate_term.+terms.Goals as goal

pub elaborate_terms-returns-in-None-clause-tree : goal.elaborate_terms-returns-in-None-clause-tree
elaborate_terms-returns-in-None-clause-tree t c = item_missing (spoken_at c.args.place.now) _ _ _ _ c.loop-syntax-test.true c.syntax-item.is c.in_ok-elaborate_term.ensures.tree c.in-None.is

pub elaborate_terms-loop-syntax-preserved : goal.elaborate_terms-loop-syntax-preserved
elaborate_terms-loop-syntax-preserved t c = (
  argument_made (spoken_at c.args.place.now) _ _ _ _ _ _ _ c.loop-syntax-test.true c.syntax-item.is c.loop-syntax.invariant.0 c.in_ok-elaborate_term.ensures.tree c.in-Some.is c.in_ok-push-in-Some.ensures.ok,
  all_belong _ _ _ _ _ c.elaborate_term.ensures.extends c.loop-syntax.invariant.1 (rw c.in-Some.is at c.in_ok-elaborate_term.ensures.belongs) c.in_ok-push-in-Some.ensures.ok,
  Extends-trans _ _ _ c.loop-syntax.invariant.2 c.elaborate_term.ensures.extends,
  item_spent _ _ _ _ c.loop-syntax-test.true c.syntax-item.is _ _ _ c.loop-syntax.invariant.3 c.elaborate_term.ensures.made,
)

pub elaborate_terms-returns-in_err-elaborate_term-clause-made : goal.elaborate_terms-returns-in_err-elaborate_term-clause-made
elaborate_terms-returns-in_err-elaborate_term-clause-made t c = items_spent _ _ _ _ c.loop-syntax-test.true c.syntax-item.is _ _ _ c.loop-syntax.invariant.3 c.elaborate_term.ensures.made

pub elaborate_terms-returns-in-None-clause-made : goal.elaborate_terms-returns-in-None-clause-made
elaborate_terms-returns-in-None-clause-made t c = items_spent _ _ _ _ c.loop-syntax-test.true c.syntax-item.is _ _ _ c.loop-syntax.invariant.3 c.elaborate_term.ensures.made

pub elaborate_terms-returns-in_err-push-in-Some-clause-made : goal.elaborate_terms-returns-in_err-push-in-Some-clause-made
elaborate_terms-returns-in_err-push-in-Some-clause-made t c = items_spent _ _ _ _ c.loop-syntax-test.true c.syntax-item.is _ _ _ c.loop-syntax.invariant.3 c.elaborate_term.ensures.made

pub elaborate_applied-returns-in-Some-clause-tree : goal.elaborate_applied-returns-in-Some-clause-tree
elaborate_applied-returns-in-Some-clause-tree t c = IfOk-weaker c.applied.result _ _ (λ o h. applied_made (spoken_at c.args.place.now) c.args.head.now _ _ _ _ _ _ (not_empty _ _ c.is_empty.ensures c.if-is_empty.false) c.in_ok-elaborate_terms.ensures.tree c.in-Some.is c.as_slice.ensures c.head_symbol.ensures h) c.applied.ensures.tree
