use Rattle.std.proofs.Common.{Contains, refl, ◌∙◌}
use Rattle.syn_model.specs.inner.Closing.{bound_vars}
use Rattle.syn_form.specs.Quantified.{free_vars}
use Rattle.syn_model.specs.Declaring.{AreAmong}
use Rattle.syn_form.proofs.Deciding.{all_more, all_pass, holds, item_fails, other_way, same_fact, unless_first, when_first}
use Rattle.syn_model.proofs.Free.{free_atom, free_chain, free_constant, free_equal, free_implies, free_not, free_quantified}
use Rattle.syn_model.proofs.closed.+forms.Goals as goal

pub form_is_bound-returns-in-True : goal.form_is_bound-returns-in-True
form_is_bound-returns-in-True t c = holds (free_constant (Contains (bound_vars c.args.bound.now)) _ c.in-True.is)

pub form_is_bound-returns-in-True-2 : goal.form_is_bound-returns-in-True-2
form_is_bound-returns-in-True-2 t c = holds (free_constant (Contains (bound_vars c.args.bound.now)) _ c.in-True.is)

pub form_is_bound-returns-in-Atom : goal.form_is_bound-returns-in-Atom
form_is_bound-returns-in-Atom t c = same_fact (other_way (free_atom (Contains (bound_vars c.args.bound.now)) _ _ _ _ c.in-Atom.is (c.as_slice.ensures ∙ c.get.ensures))) c.terms_are_bound.ensures

pub form_is_bound-returns-then-term_is_bound : goal.form_is_bound-returns-then-term_is_bound
form_is_bound-returns-then-term_is_bound t c = when_first (other_way (free_equal (Contains (bound_vars c.args.bound.now)) _ _ _ c.in-Equal.is)) c.term_is_bound.ensures c.if-term_is_bound.true c.term_is_bound-then-term_is_bound.ensures

pub form_is_bound-returns-else-term_is_bound : goal.form_is_bound-returns-else-term_is_bound
form_is_bound-returns-else-term_is_bound t c = unless_first (other_way (free_equal (Contains (bound_vars c.args.bound.now)) _ _ _ c.in-Equal.is)) c.term_is_bound.ensures c.if-term_is_bound.false

pub form_is_bound-returns-in-Not : goal.form_is_bound-returns-in-Not
form_is_bound-returns-in-Not t c = same_fact (other_way (free_not (Contains (bound_vars c.args.bound.now)) _ _ _ c.in-Not.is c.get-in-Not.ensures)) c.form_is_bound.ensures

pub form_is_bound-returns-then-form_is_bound : goal.form_is_bound-returns-then-form_is_bound
form_is_bound-returns-then-form_is_bound t c = when_first (other_way (free_implies (Contains (bound_vars c.args.bound.now)) _ _ _ _ _ c.in-Implies.is c.get-in-Implies.ensures c.get-then-form_is_bound.ensures)) c.form_is_bound-in-Implies.ensures c.if-form_is_bound.true c.form_is_bound-then-form_is_bound.ensures

pub form_is_bound-returns-else-form_is_bound : goal.form_is_bound-returns-else-form_is_bound
form_is_bound-returns-else-form_is_bound t c = unless_first (other_way (free_implies (Contains (bound_vars c.args.bound.now)) _ _ _ _ _ c.in-Implies.is c.get-in-Implies.ensures refl)) c.form_is_bound-in-Implies.ensures c.if-form_is_bound.false

pub form_is_bound-returns-in-And : goal.form_is_bound-returns-in-And
form_is_bound-returns-in-And t c = same_fact (other_way (free_chain (Contains (bound_vars c.args.bound.now)) _ _ _ c.in-And.is (c.as_slice-in-And.ensures ∙ c.get-in-And.ensures))) c.forms_are_bound.ensures

pub form_is_bound-returns-in-All : goal.form_is_bound-returns-in-All
form_is_bound-returns-in-All t c = same_fact (other_way (free_quantified _ _ _ _ _ _ c.in-All.is c.get-in-All.ensures c.also.ensures)) c.form_is_bound-in-All.ensures

pub forms_are_bound-returns-then-not-form_is_bound : goal.forms_are_bound-returns-then-not-form_is_bound
forms_are_bound-returns-then-not-form_is_bound t c = item_fails (λ g. AreAmong (free_vars g) (bound_vars c.args.bound.now)) _ _ _ _ c.loop-f-test.true c.f-item.is c.form_is_bound.ensures c.if-not-form_is_bound.true

pub forms_are_bound-loop-f-preserved : goal.forms_are_bound-loop-f-preserved
forms_are_bound-loop-f-preserved t c = all_more (λ g. AreAmong (free_vars g) (bound_vars c.args.bound.now)) _ _ _ _ c.loop-f-test.true c.f-item.is c.form_is_bound.ensures c.if-not-form_is_bound.false c.loop-f.invariant

pub forms_are_bound-returns : goal.forms_are_bound-returns
forms_are_bound-returns t c = all_pass (λ g. AreAmong (free_vars g) (bound_vars c.args.bound.now)) _ _ c.loop-f-test.false c.loop-f.invariant
