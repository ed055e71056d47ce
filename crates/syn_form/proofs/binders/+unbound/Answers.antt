use Rattle.std.proofs.Common.{refl, ◌∙◌}
use Rattle.syn_form.proofs.Cuts.{IsOther, OfBinders, binder_cut, binder_cuts, chain_cut, implication_cut, negation_cut}
use Rattle.syn_form.proofs.Deciding.{all_more, all_whole, fails, holds, not_all, same_fact, second_alone, unless_first, when_first}
use Rattle.syn_form.proofs.binders.+unbound.Goals as goal

pub is_unbound_in_all-returns-then-not-is_unbound : goal.is_unbound_in_all-returns-then-not-is_unbound
is_unbound_in_all-returns-then-not-is_unbound t c = fails (not_all (OfBinders (IsOther c.args.name.now)) _ _ _ _ c.loop-f-test.true c.f-item.is c.is_unbound.ensures c.if-not-is_unbound.true)

pub is_unbound_in_all-loop-f-preserved : goal.is_unbound_in_all-loop-f-preserved
is_unbound_in_all-loop-f-preserved t c = all_more (OfBinders (IsOther c.args.name.now)) _ _ _ _ c.loop-f-test.true c.f-item.is c.is_unbound.ensures c.if-not-is_unbound.false c.loop-f.invariant

pub is_unbound_in_all-returns : goal.is_unbound_in_all-returns
is_unbound_in_all-returns t c = holds (all_whole (OfBinders (IsOther c.args.name.now)) _ _ c.loop-f-test.false c.loop-f.invariant)

pub is_unbound-returns-in-Not : goal.is_unbound-returns-in-Not
is_unbound-returns-in-Not t c = same_fact (negation_cut _ _ _ (binder_cuts (IsOther c.args.name.now)) _ _ _ c.in-Not.is c.get.ensures) c.is_unbound.ensures

pub is_unbound-returns-in-And : goal.is_unbound-returns-in-And
is_unbound-returns-in-And t c = same_fact (second_alone (chain_cut _ _ _ (binder_cuts (IsOther c.args.name.now)) _ _ _ c.in-And.is (c.as_slice.ensures ∙ c.get-in-And.ensures))) c.is_unbound_in_all.ensures

pub is_unbound-returns-then-is_unbound : goal.is_unbound-returns-then-is_unbound
is_unbound-returns-then-is_unbound t c = when_first (implication_cut _ _ _ (binder_cuts (IsOther c.args.name.now)) _ _ _ _ _ c.in-Implies.is c.get-in-Implies.ensures c.get-then-is_unbound.ensures) c.is_unbound-in-Implies.ensures c.if-is_unbound.true c.is_unbound-then-is_unbound.ensures

pub is_unbound-returns-else-is_unbound : goal.is_unbound-returns-else-is_unbound
is_unbound-returns-else-is_unbound t c = unless_first (implication_cut _ _ _ (binder_cuts (IsOther c.args.name.now)) _ _ _ _ _ c.in-Implies.is c.get-in-Implies.ensures refl) c.is_unbound-in-Implies.ensures c.if-is_unbound.false

pub is_unbound-returns-then-has_other_name : goal.is_unbound-returns-then-has_other_name
is_unbound-returns-then-has_other_name t c = when_first (binder_cut _ _ _ (binder_cuts (IsOther c.args.name.now)) _ _ _ _ _ c.in-All.is refl c.get-then-has_other_name.ensures) c.has_other_name.ensures c.if-has_other_name.true c.is_unbound-then-has_other_name.ensures

pub is_unbound-returns-else-has_other_name : goal.is_unbound-returns-else-has_other_name
is_unbound-returns-else-has_other_name t c = unless_first (binder_cut _ _ _ (binder_cuts (IsOther c.args.name.now)) _ _ _ _ _ c.in-All.is refl refl) c.has_other_name.ensures c.if-has_other_name.false
