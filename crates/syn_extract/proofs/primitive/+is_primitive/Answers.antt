use Rattle.std.proofs.Common.{refl}
use Rattle.syn_form.proofs.Deciding.{fails, first_fails, same_fact, unless_first, when_first}
use Rattle.syn_form.proofs.FormedForms.{when_both}
use Rattle.syn_extract.proofs.PrimitiveTrees.{choice_primitive, term_primitive}
use Rattle.syn_extract.proofs.primitive.+is_primitive.Goals as goal

pub returns-in-Give : goal.returns-in-Give
returns-in-Give t c = same_fact (term_primitive _ _ _ c.in-Give.is) c.is_primitive_term.ensures

pub returns-then-not-is_primitive_form : goal.returns-then-not-is_primitive_form
returns-then-not-is_primitive_form t c = fails (λ h. first_fails c.is_primitive_form.ensures c.if-not-is_primitive_form.true ((choice_primitive _ _ _ _ _ _ _ _ c.in-If.is c.get.ensures refl refl).0 h).0)

pub returns-then-is_primitive : goal.returns-then-is_primitive
returns-then-is_primitive t c = when_first (when_both (choice_primitive _ _ _ _ _ _ _ _ c.in-If.is c.get.ensures c.get-in-If.ensures c.get-then-is_primitive.ensures) (c.is_primitive_form.ensures.0 c.if-not-is_primitive_form.false)) c.is_primitive.ensures c.if-is_primitive.true c.is_primitive-then-is_primitive.ensures

pub returns-else-is_primitive : goal.returns-else-is_primitive
returns-else-is_primitive t c = unless_first (when_both (choice_primitive _ _ _ _ _ _ _ _ c.in-If.is c.get.ensures c.get-in-If.ensures refl) (c.is_primitive_form.ensures.0 c.if-not-is_primitive_form.false)) c.is_primitive.ensures c.if-is_primitive.false
