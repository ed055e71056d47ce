use Rattle.std.proofs.Common.{Contains, refl, ◌∙◌}
use Rattle.syn_form.specs.Trees.{form_vars}
use Rattle.syn_model.specs.Declaring.{AreAmong}
use Rattle.syn_form.proofs.Deciding.{all_more, all_pass, holds, item_fails, other_way, same_fact, unless_first, when_first}
use Rattle.syn_model.proofs.Over.{over_atom, over_chain, over_constant, over_equal, over_implies, over_not}
use Rattle.syn_model.proofs.among.+forms.Goals as goal

pub form_is_over-returns-in-True : goal.form_is_over-returns-in-True
form_is_over-returns-in-True t c = holds (over_constant (Contains c.args.vars.now) _ c.in-True.is)

pub form_is_over-returns-in-True-2 : goal.form_is_over-returns-in-True-2
form_is_over-returns-in-True-2 t c = holds (over_constant (Contains c.args.vars.now) _ c.in-True.is)

pub form_is_over-returns-in-Atom : goal.form_is_over-returns-in-Atom
form_is_over-returns-in-Atom t c = same_fact (other_way (over_atom (Contains c.args.vars.now) _ _ _ _ c.in-Atom.is (c.as_slice.ensures ∙ c.get.ensures))) c.terms_are_over.ensures

pub form_is_over-returns-then-term_is_over : goal.form_is_over-returns-then-term_is_over
form_is_over-returns-then-term_is_over t c = when_first (other_way (over_equal (Contains c.args.vars.now) _ _ _ c.in-Equal.is)) c.term_is_over.ensures c.if-term_is_over.true c.term_is_over-then-term_is_over.ensures

pub form_is_over-returns-else-term_is_over : goal.form_is_over-returns-else-term_is_over
form_is_over-returns-else-term_is_over t c = unless_first (other_way (over_equal (Contains c.args.vars.now) _ _ _ c.in-Equal.is)) c.term_is_over.ensures c.if-term_is_over.false

pub form_is_over-returns-in-Not : goal.form_is_over-returns-in-Not
form_is_over-returns-in-Not t c = same_fact (other_way (over_not (Contains c.args.vars.now) _ _ _ c.in-Not.is c.get-in-Not.ensures)) c.form_is_over.ensures

pub form_is_over-returns-then-form_is_over : goal.form_is_over-returns-then-form_is_over
form_is_over-returns-then-form_is_over t c = when_first (other_way (over_implies (Contains c.args.vars.now) _ _ _ _ _ c.in-Implies.is c.get-in-Implies.ensures c.get-then-form_is_over.ensures)) c.form_is_over-in-Implies.ensures c.if-form_is_over.true c.form_is_over-then-form_is_over.ensures

pub form_is_over-returns-else-form_is_over : goal.form_is_over-returns-else-form_is_over
form_is_over-returns-else-form_is_over t c = unless_first (other_way (over_implies (Contains c.args.vars.now) _ _ _ _ _ c.in-Implies.is c.get-in-Implies.ensures refl)) c.form_is_over-in-Implies.ensures c.if-form_is_over.false

pub form_is_over-returns-in-And : goal.form_is_over-returns-in-And
form_is_over-returns-in-And t c = same_fact (other_way (over_chain (Contains c.args.vars.now) _ _ _ c.in-And.is (c.as_slice-in-And.ensures ∙ c.get-in-And.ensures))) c.forms_are_over.ensures

pub forms_are_over-returns-then-not-form_is_over : goal.forms_are_over-returns-then-not-form_is_over
forms_are_over-returns-then-not-form_is_over t c = item_fails (λ g. AreAmong (form_vars g) c.args.vars.now) _ _ _ _ c.loop-f-test.true c.f-item.is c.form_is_over.ensures c.if-not-form_is_over.true

pub forms_are_over-loop-f-preserved : goal.forms_are_over-loop-f-preserved
forms_are_over-loop-f-preserved t c = all_more (λ g. AreAmong (form_vars g) c.args.vars.now) _ _ _ _ c.loop-f-test.true c.f-item.is c.form_is_over.ensures c.if-not-form_is_over.false c.loop-f.invariant

pub forms_are_over-returns : goal.forms_are_over-returns
forms_are_over-returns t c = all_pass (λ g. AreAmong (form_vars g) c.args.vars.now) _ _ c.loop-f-test.false c.loop-f.invariant
