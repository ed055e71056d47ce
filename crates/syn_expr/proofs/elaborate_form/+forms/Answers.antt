use Rattle.std.proofs.Common.{◌≡◌, ◌*◌, ◌<◌, None, Some, sym, ◌∙◌, arith}
use Rattle.std.proofs.lemmas.Result.{IfOk-weaker}
use Rattle.syn_term.specs.Bank.{Extends-trans}
use Rattle.syn_form.specs.Elaboration.{elaborate_form}
use Rattle.syn_expr.specs.inner.Places.{spoken_at}
use Rattle.syn_expr.proofs.FormMaking.{both, bound_whole, form_read, is_numbered, not_bound, not_numbered}
use Rattle.syn_expr.proofs.Owning.{all_own, some_owned}
use Rattle.syn_expr.proofs.Spending.{back_spent, item_spent, items_spent, quantified_spent}
use Rattle.syn_expr.proofs.Weights.{weight, weighs_less}
use Rattle.syn_expr.proofs.elaborate_form.+forms.Goals as goal

pub elaborate_forms-elaborate_form-requires : goal.elaborate_forms-elaborate_form-requires
elaborate_forms-elaborate_form-requires t c =
    let most = weighs_less _ _ _ c.loop-syntax-test.true c.syntax-item.is in
    let less : 4 * weight c.syntax-item.result < t = omega arith in
    (less, tt)

pub elaborate_forms-loop-syntax-preserved : goal.elaborate_forms-loop-syntax-preserved
elaborate_forms-loop-syntax-preserved t c =
    let read : c.in-Ok-Some.field-0 ≡ Some (both c.in-Ok-Some.part c.in-Ok-Some.last) = cc in (
      c.loop-syntax.invariant.0 ∙ form_read (spoken_at c.args.place.now) _ _ _ _ _ _ _ _ _ c.loop-syntax-test.true c.syntax-item.is c.in-Ok-Some.ensures.tree read c.in-Ok.ensures.ok,
      all_own _ _ _ _ _ c.elaborate_form.ensures.extends c.loop-syntax.invariant.1 (some_owned _ _ _ _ read c.in-Ok-Some.ensures.belongs) c.in-Ok.ensures.ok,
      Extends-trans _ _ _ c.loop-syntax.invariant.2 c.elaborate_form.ensures.extends,
      item_spent _ _ _ _ c.loop-syntax-test.true c.syntax-item.is _ _ _ c.loop-syntax.invariant.3 c.elaborate_form.ensures.made,
    )

pub quantified-returns-in-Ok-None-clause-tree : goal.quantified-returns-in-Ok-None-clause-tree
quantified-returns-in-Ok-None-clause-tree t c =
    let none : c.in-Ok-None.field-0 ≡ None = cc in
    not_bound (spoken_at c.args.place.now) c.args.quantifier _ _ (elaborate_form c.args.a.now) _ c.in-len1-up.len_at_least c.binder-item.is (not_numbered (spoken_at c.args.place.now) c.binder-item.result c.args.next _ c.in-Ok-None.ensures none)

pub quantified-returns-in-Ok-clause-tree : goal.quantified-returns-in-Ok-clause-tree
quantified-returns-in-Ok-clause-tree t c =
    let some : c.in-Ok-Some.field-0 ≡ Some (c.in-Ok-Some.binder, c.in-Ok-Some.after) = cc in
    let made = is_numbered (spoken_at c.args.place.now) c.binder-item.result c.args.next _ _ _ c.in-Ok-Some.ensures some in
    IfOk-weaker c.bound.result _ _
    (λ r h. h ∙ sym (bound_whole (spoken_at c.args.place.now) c.args.quantifier _ _ (elaborate_form c.args.a.now) _ c.in-len1-up.len_at_least c.binder-item.is
    _ _ _ _ _ made.0 made.1 c.within-place.ensures made.2 c.in-Ok.ensures.tree)) c.bound.ensures.tree

pub quantified-returns-in-Ok-clause-belongs : goal.quantified-returns-in-Ok-clause-belongs
quantified-returns-in-Ok-clause-belongs t c = c.bound.ensures.belongs _ c.in-Ok.ensures.belongs

pub negation-returns-in-Ok-clause-belongs : goal.negation-returns-in-Ok-clause-belongs
negation-returns-in-Ok-clause-belongs t c = c.negated.ensures.belongs _ c.in-Ok.ensures.belongs

pub members_and-returns-in-Ok-clause-belongs : goal.members_and-returns-in-Ok-clause-belongs
members_and-returns-in-Ok-clause-belongs t c = c.conjunction.ensures.belongs _ c.in-Ok.ensures.belongs

pub members_or-returns-in-Ok-clause-belongs : goal.members_or-returns-in-Ok-clause-belongs
members_or-returns-in-Ok-clause-belongs t c = c.disjunction.ensures.belongs _ c.in-Ok.ensures.belongs

pub elaborate_forms-returns-in-Err-clause-made : goal.elaborate_forms-returns-in-Err-clause-made
elaborate_forms-returns-in-Err-clause-made t c = items_spent _ _ _ _ c.loop-syntax-test.true c.syntax-item.is _ _ _ c.loop-syntax.invariant.3 c.elaborate_form.ensures.made

pub elaborate_forms-returns-in-Ok-None-clause-made : goal.elaborate_forms-returns-in-Ok-None-clause-made
elaborate_forms-returns-in-Ok-None-clause-made t c = items_spent _ _ _ _ c.loop-syntax-test.true c.syntax-item.is _ _ _ c.loop-syntax.invariant.3 c.elaborate_form.ensures.made

pub elaborate_forms-returns-in-Err-push-clause-made : goal.elaborate_forms-returns-in-Err-push-clause-made
elaborate_forms-returns-in-Err-push-clause-made t c = items_spent _ _ _ _ c.loop-syntax-test.true c.syntax-item.is _ _ _ c.loop-syntax.invariant.3 c.elaborate_form.ensures.made

pub both_ways-returns-in-Err-clause-made : goal.both_ways-returns-in-Err-clause-made
both_ways-returns-in-Err-clause-made t c = back_spent _ _ _ _ c.implication.ensures.made _ c.implication-2.ensures.made

pub both_ways-returns-in-Ok-clause-made : goal.both_ways-returns-in-Ok-clause-made
both_ways-returns-in-Ok-clause-made t c = back_spent _ _ _ _ c.implication.ensures.made _ c.implication-2.ensures.made

pub elaborate_form-returns-in-Quantified-clause-made : goal.elaborate_form-returns-in-Quantified-clause-made
elaborate_form-returns-in-Quantified-clause-made t c = quantified_spent _ _ _ _ _ _ c.in-Quantified.is c.under_quantifier.ensures.made
