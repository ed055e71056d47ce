use Rattle.std.proofs.Common.{refl, ◌∙◌}
use Rattle.syn_form.proofs.Deciding.{all_more, all_whole, fails, holds, not_all, same_fact, unless_first, when_first}
use Rattle.syn_model.specs.Programs.{IsPrimitiveForm}
use Rattle.syn_extract.proofs.PrimitiveTrees.{atom_primitive, chain_primitive, constant_primitive, equality_primitive, implication_primitive, negation_primitive}
use Rattle.syn_extract.proofs.primitive.+forms.Goals as goal

pub are_primitive_forms-returns-then-not-is_primitive_form : goal.are_primitive_forms-returns-then-not-is_primitive_form
are_primitive_forms-returns-then-not-is_primitive_form t c = fails (not_all (IsPrimitiveForm c.args.spec.now) _ _ _ _ c.loop-f-test.true c.f-item.is c.is_primitive_form.ensures c.if-not-is_primitive_form.true)

pub are_primitive_forms-loop-f-preserved : goal.are_primitive_forms-loop-f-preserved
are_primitive_forms-loop-f-preserved t c = all_more (IsPrimitiveForm c.args.spec.now) _ _ _ _ c.loop-f-test.true c.f-item.is c.is_primitive_form.ensures c.if-not-is_primitive_form.false c.loop-f.invariant

pub are_primitive_forms-returns : goal.are_primitive_forms-returns
are_primitive_forms-returns t c = holds (all_whole (IsPrimitiveForm c.args.spec.now) _ _ c.loop-f-test.false c.loop-f.invariant)

pub is_primitive_form-returns-in-Atom : goal.is_primitive_form-returns-in-Atom
is_primitive_form-returns-in-Atom t c = same_fact (atom_primitive _ _ _ _ _ c.in-Atom.is (c.as_slice.ensures ∙ c.get.ensures)) c.is_primitive_atom.ensures

pub is_primitive_form-returns-in-Equal : goal.is_primitive_form-returns-in-Equal
is_primitive_form-returns-in-Equal t c = same_fact (equality_primitive _ _ _ _ c.in-Equal.is) c.is_primitive_equality.ensures

pub is_primitive_form-returns-in-Not : goal.is_primitive_form-returns-in-Not
is_primitive_form-returns-in-Not t c = same_fact (negation_primitive _ _ _ _ c.in-Not.is c.get-in-Not.ensures) c.is_primitive_form.ensures

pub is_primitive_form-returns-then-is_primitive_form : goal.is_primitive_form-returns-then-is_primitive_form
is_primitive_form-returns-then-is_primitive_form t c = when_first (implication_primitive _ _ _ _ _ _ c.in-Implies.is c.get-in-Implies.ensures c.get-then-is_primitive_form.ensures) c.is_primitive_form-in-Implies.ensures c.if-is_primitive_form.true c.is_primitive_form-then-is_primitive_form.ensures

pub is_primitive_form-returns-else-is_primitive_form : goal.is_primitive_form-returns-else-is_primitive_form
is_primitive_form-returns-else-is_primitive_form t c = unless_first (implication_primitive _ _ _ _ _ _ c.in-Implies.is c.get-in-Implies.ensures refl) c.is_primitive_form-in-Implies.ensures c.if-is_primitive_form.false

pub is_primitive_form-returns-in-True : goal.is_primitive_form-returns-in-True
is_primitive_form-returns-in-True t c = holds (constant_primitive _ _ c.in-True.is)

pub is_primitive_form-returns-in-True-2 : goal.is_primitive_form-returns-in-True-2
is_primitive_form-returns-in-True-2 t c = holds (constant_primitive _ _ c.in-True.is)

pub is_primitive_form-returns-in-And : goal.is_primitive_form-returns-in-And
is_primitive_form-returns-in-And t c = same_fact (chain_primitive _ _ _ _ c.in-And.is (c.as_slice-in-And.ensures ∙ c.get-in-And.ensures)) c.are_primitive_forms.ensures
