use Rattle.std.proofs.Common.{refl, ◌∙◌}
use Rattle.syn_form.proofs.Cuts.{chain_cut, constant_cut, implication_cut, negation_cut, scope_cut}
use Rattle.syn_form.proofs.Deciding.{all_more, all_pass, holds, item_fails, same_fact, second_alone, unless_first, when_first}
use Rattle.syn_model.specs.Specifications.{UsesQForm}
use Rattle.syn_model.proofs.UsingQuantified.{atom_uses, equal_uses, uses_cuts}
use Rattle.syn_model.proofs.uses.+qforms.Goals as goal

pub uses_qform-returns-in-True : goal.uses_qform-returns-in-True
uses_qform-returns-in-True t c = holds (constant_cut _ _ _ (uses_cuts c.args.own c.args.rest) _ c.in-True.is)

pub uses_qform-returns-in-True-2 : goal.uses_qform-returns-in-True-2
uses_qform-returns-in-True-2 t c = holds (constant_cut _ _ _ (uses_cuts c.args.own c.args.rest) _ c.in-True.is)

pub uses_qform-returns-then-may_stand : goal.uses_qform-returns-then-may_stand
uses_qform-returns-then-may_stand t c = when_first (atom_uses _ _ _ _ _ _ _ c.in-Atom.is (c.as_slice.ensures ∙ c.get.ensures) (c.as_slice-then-may_stand.ensures ∙ c.get-then-may_stand.ensures)) c.may_stand.ensures c.if-may_stand.true c.uses_terms.ensures

pub uses_qform-returns-else-may_stand : goal.uses_qform-returns-else-may_stand
uses_qform-returns-else-may_stand t c = unless_first (atom_uses _ _ _ _ _ _ _ c.in-Atom.is (c.as_slice.ensures ∙ c.get.ensures) refl) c.may_stand.ensures c.if-may_stand.false

pub uses_qform-returns-then-uses_term : goal.uses_qform-returns-then-uses_term
uses_qform-returns-then-uses_term t c = when_first (equal_uses _ _ _ _ _ c.in-Equal.is) c.uses_term.ensures c.if-uses_term.true c.uses_term-then-uses_term.ensures

pub uses_qform-returns-else-uses_term : goal.uses_qform-returns-else-uses_term
uses_qform-returns-else-uses_term t c = unless_first (equal_uses _ _ _ _ _ c.in-Equal.is) c.uses_term.ensures c.if-uses_term.false

pub uses_qform-returns-in-Not : goal.uses_qform-returns-in-Not
uses_qform-returns-in-Not t c = same_fact (negation_cut _ _ _ (uses_cuts c.args.own c.args.rest) _ _ _ c.in-Not.is c.get-in-Not.ensures) c.uses_qform.ensures

pub uses_qform-returns-in-And : goal.uses_qform-returns-in-And
uses_qform-returns-in-And t c = same_fact (second_alone (chain_cut _ _ _ (uses_cuts c.args.own c.args.rest) _ _ _ c.in-And.is (c.as_slice-in-And.ensures ∙ c.get-in-And.ensures))) c.uses_qforms.ensures

pub uses_qform-returns-then-uses_qform : goal.uses_qform-returns-then-uses_qform
uses_qform-returns-then-uses_qform t c = when_first (implication_cut _ _ _ (uses_cuts c.args.own c.args.rest) _ _ _ _ _ c.in-Implies.is c.get-in-Implies.ensures c.get-then-uses_qform.ensures) c.uses_qform-in-Implies.ensures c.if-uses_qform.true c.uses_qform-then-uses_qform.ensures

pub uses_qform-returns-else-uses_qform : goal.uses_qform-returns-else-uses_qform
uses_qform-returns-else-uses_qform t c = unless_first (implication_cut _ _ _ (uses_cuts c.args.own c.args.rest) _ _ _ _ _ c.in-Implies.is c.get-in-Implies.ensures refl) c.uses_qform-in-Implies.ensures c.if-uses_qform.false

pub uses_qform-returns-in-All : goal.uses_qform-returns-in-All
uses_qform-returns-in-All t c = same_fact (scope_cut _ _ (uses_cuts c.args.own c.args.rest) _ _ _ c.in-All.is c.get-in-All.ensures) c.uses_qform-in-All.ensures

pub uses_qforms-returns-then-not-uses_qform : goal.uses_qforms-returns-then-not-uses_qform
uses_qforms-returns-then-not-uses_qform t c = item_fails (UsesQForm c.args.own c.args.rest) _ _ _ _ c.loop-f-test.true c.f-item.is c.uses_qform.ensures c.if-not-uses_qform.true

pub uses_qforms-loop-f-preserved : goal.uses_qforms-loop-f-preserved
uses_qforms-loop-f-preserved t c = all_more (UsesQForm c.args.own c.args.rest) _ _ _ _ c.loop-f-test.true c.f-item.is c.uses_qform.ensures c.if-not-uses_qform.false c.loop-f.invariant

pub uses_qforms-returns : goal.uses_qforms-returns
uses_qforms-returns t c = all_pass (UsesQForm c.args.own c.args.rest) _ _ c.loop-f-test.false c.loop-f.invariant
