use Rattle.std.proofs.Common.{refl, ◌∙◌}
use Rattle.syn_model.specs.Clauses.{UsesForm}
use Rattle.syn_form.proofs.Deciding.{all_more, all_pass, holds, item_fails, other_way, same_fact, unless_first, when_first}
use Rattle.syn_model.proofs.Using.{uses_atom, uses_chain, uses_equal, uses_implies, uses_not, uses_constant}
use Rattle.syn_model.proofs.uses.+forms.Goals as goal

pub uses_form-returns-in-True : goal.uses_form-returns-in-True
uses_form-returns-in-True t c = holds (uses_constant _ _ _ c.in-True.is)

pub uses_form-returns-in-True-2 : goal.uses_form-returns-in-True-2
uses_form-returns-in-True-2 t c = holds (uses_constant _ _ _ c.in-True.is)

pub uses_form-returns-then-may_stand : goal.uses_form-returns-then-may_stand
uses_form-returns-then-may_stand t c = when_first (other_way (uses_atom _ _ _ _ _ _ _ c.in-Atom.is (c.as_slice.ensures ∙ c.get.ensures) (c.as_slice-then-may_stand.ensures ∙ c.get-then-may_stand.ensures))) c.may_stand.ensures c.if-may_stand.true c.uses_terms.ensures

pub uses_form-returns-else-may_stand : goal.uses_form-returns-else-may_stand
uses_form-returns-else-may_stand t c = unless_first (other_way (uses_atom _ _ _ _ _ _ _ c.in-Atom.is (c.as_slice.ensures ∙ c.get.ensures) refl)) c.may_stand.ensures c.if-may_stand.false

pub uses_form-returns-then-uses_term : goal.uses_form-returns-then-uses_term
uses_form-returns-then-uses_term t c = when_first (other_way (uses_equal _ _ _ _ _ c.in-Equal.is)) c.uses_term.ensures c.if-uses_term.true c.uses_term-then-uses_term.ensures

pub uses_form-returns-else-uses_term : goal.uses_form-returns-else-uses_term
uses_form-returns-else-uses_term t c = unless_first (other_way (uses_equal _ _ _ _ _ c.in-Equal.is)) c.uses_term.ensures c.if-uses_term.false

pub uses_form-returns-in-Not : goal.uses_form-returns-in-Not
uses_form-returns-in-Not t c = same_fact (other_way (uses_not _ _ _ _ _ c.in-Not.is c.get-in-Not.ensures)) c.uses_form.ensures

pub uses_form-returns-then-uses_form : goal.uses_form-returns-then-uses_form
uses_form-returns-then-uses_form t c = when_first (other_way (uses_implies _ _ _ _ _ _ _ c.in-Implies.is c.get-in-Implies.ensures c.get-then-uses_form.ensures)) c.uses_form-in-Implies.ensures c.if-uses_form.true c.uses_form-then-uses_form.ensures

pub uses_form-returns-else-uses_form : goal.uses_form-returns-else-uses_form
uses_form-returns-else-uses_form t c = unless_first (other_way (uses_implies _ _ _ _ _ _ _ c.in-Implies.is c.get-in-Implies.ensures refl)) c.uses_form-in-Implies.ensures c.if-uses_form.false

pub uses_form-returns-in-And : goal.uses_form-returns-in-And
uses_form-returns-in-And t c = same_fact (other_way (uses_chain _ _ _ _ _ c.in-And.is (c.as_slice-in-And.ensures ∙ c.get-in-And.ensures))) c.uses_forms.ensures

pub uses_forms-returns-then-not-uses_form : goal.uses_forms-returns-then-not-uses_form
uses_forms-returns-then-not-uses_form t c = item_fails (UsesForm c.args.own c.args.rest) _ _ _ _ c.loop-f-test.true c.f-item.is c.uses_form.ensures c.if-not-uses_form.true

pub uses_forms-loop-f-preserved : goal.uses_forms-loop-f-preserved
uses_forms-loop-f-preserved t c = all_more (UsesForm c.args.own c.args.rest) _ _ _ _ c.loop-f-test.true c.f-item.is c.uses_form.ensures c.if-not-uses_form.false c.loop-f.invariant

pub uses_forms-returns : goal.uses_forms-returns
uses_forms-returns t c = all_pass (UsesForm c.args.own c.args.rest) _ _ c.loop-f-test.false c.loop-f.invariant
