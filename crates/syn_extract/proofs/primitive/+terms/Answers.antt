use Rattle.std.proofs.Common.{refl, sym, ◌∙◌}
use Rattle.syn_form.proofs.Deciding.{all_more, all_whole, fails, holds, not_all, unless_first, when_first}
use Rattle.syn_model.specs.Programs.{IsPrimitiveTerm}
use Rattle.syn_extract.proofs.PrimitiveTrees.{application_primitive, variable_primitive}
use Rattle.syn_extract.proofs.primitive.+terms.Goals as goal

pub are_primitive_terms-returns-then-not-is_primitive_term : goal.are_primitive_terms-returns-then-not-is_primitive_term
are_primitive_terms-returns-then-not-is_primitive_term t c = fails (not_all (IsPrimitiveTerm c.args.spec.now) _ _ _ _ c.loop-t-test.true c.t-item.is c.is_primitive_term.ensures c.if-not-is_primitive_term.true)

pub are_primitive_terms-loop-t-preserved : goal.are_primitive_terms-loop-t-preserved
are_primitive_terms-loop-t-preserved t c = all_more (IsPrimitiveTerm c.args.spec.now) _ _ _ _ c.loop-t-test.true c.t-item.is c.is_primitive_term.ensures c.if-not-is_primitive_term.false c.loop-t.invariant

pub are_primitive_terms-returns : goal.are_primitive_terms-returns
are_primitive_terms-returns t c = holds (all_whole (IsPrimitiveTerm c.args.spec.now) _ _ c.loop-t-test.false c.loop-t.invariant)

pub is_primitive_term-returns-in-Var : goal.is_primitive_term-returns-in-Var
is_primitive_term-returns-in-Var t c = holds (variable_primitive _ _ _ _ (sym c.get.ensures ∙ c.in-Var.is))

pub is_primitive_term-returns-then-has_primitive : goal.is_primitive_term-returns-then-has_primitive
is_primitive_term-returns-then-has_primitive t c = when_first (application_primitive _ _ _ _ _ _ (sym c.get.ensures ∙ c.in-App.is) c.as_slice.ensures) c.has_primitive.ensures c.if-has_primitive.true c.are_primitive_terms.ensures

pub is_primitive_term-returns-else-has_primitive : goal.is_primitive_term-returns-else-has_primitive
is_primitive_term-returns-else-has_primitive t c = unless_first (application_primitive c.args.spec.now _ _ _ _ _ (sym c.get.ensures ∙ c.in-App.is) refl) c.has_primitive.ensures c.if-has_primitive.false
