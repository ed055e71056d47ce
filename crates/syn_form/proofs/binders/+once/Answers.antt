use Rattle.std.proofs.Common.{refl, ◌∙◌}
use Rattle.syn_form.specs.PlainQuantified.{BindsOnce}
use Rattle.syn_form.proofs.Cuts.{once_cuts, binder_once, chain_cut, implication_cut, leaf_once, negation_cut}
use Rattle.syn_form.proofs.Deciding.{all_more, all_whole, fails, holds, not_all, same_fact, second_alone, unless_first, when_first}
use Rattle.syn_form.proofs.binders.+once.Goals as goal

pub all_bind_once-returns-then-not-binds_once : goal.all_bind_once-returns-then-not-binds_once
all_bind_once-returns-then-not-binds_once t c = fails (not_all (BindsOnce) _ _ _ _ c.loop-f-test.true c.f-item.is c.binds_once.ensures c.if-not-binds_once.true)

pub all_bind_once-loop-f-preserved : goal.all_bind_once-loop-f-preserved
all_bind_once-loop-f-preserved t c = all_more (BindsOnce) _ _ _ _ c.loop-f-test.true c.f-item.is c.binds_once.ensures c.if-not-binds_once.false c.loop-f.invariant

pub all_bind_once-returns : goal.all_bind_once-returns
all_bind_once-returns t c = holds (all_whole (BindsOnce) _ _ c.loop-f-test.false c.loop-f.invariant)

pub binds_once-returns-in-Not : goal.binds_once-returns-in-Not
binds_once-returns-in-Not t c = same_fact (negation_cut _ _ _ once_cuts _ _ _ c.in-Not.is c.get.ensures) c.binds_once.ensures

pub binds_once-returns-in-And : goal.binds_once-returns-in-And
binds_once-returns-in-And t c = same_fact (second_alone (chain_cut _ _ _ once_cuts _ _ _ c.in-And.is (c.as_slice.ensures ∙ c.get-in-And.ensures))) c.all_bind_once.ensures

pub binds_once-returns-then-binds_once : goal.binds_once-returns-then-binds_once
binds_once-returns-then-binds_once t c = when_first (implication_cut _ _ _ once_cuts _ _ _ _ _ c.in-Implies.is c.get-in-Implies.ensures c.get-then-binds_once.ensures) c.binds_once-in-Implies.ensures c.if-binds_once.true c.binds_once-then-binds_once.ensures

pub binds_once-returns-else-binds_once : goal.binds_once-returns-else-binds_once
binds_once-returns-else-binds_once t c = unless_first (implication_cut _ _ _ once_cuts _ _ _ _ _ c.in-Implies.is c.get-in-Implies.ensures refl) c.binds_once-in-Implies.ensures c.if-binds_once.false

pub binds_once-returns-then-is_unbound : goal.binds_once-returns-then-is_unbound
binds_once-returns-then-is_unbound t c = when_first (binder_once _ _ _ _ _ _ c.in-All.is c.as_str.ensures c.get-in-All.ensures c.get-then-is_unbound.ensures) c.is_unbound.ensures c.if-is_unbound.true c.binds_once-then-is_unbound.ensures

pub binds_once-returns-else-is_unbound : goal.binds_once-returns-else-is_unbound
binds_once-returns-else-is_unbound t c = unless_first (binder_once _ _ _ _ _ _ c.in-All.is c.as_str.ensures c.get-in-All.ensures refl) c.is_unbound.ensures c.if-is_unbound.false

pub binds_once-returns-in-True : goal.binds_once-returns-in-True
binds_once-returns-in-True t c = holds (leaf_once _ c.in-True.is)

pub binds_once-returns-in-True-2 : goal.binds_once-returns-in-True-2
binds_once-returns-in-True-2 t c = holds (leaf_once _ c.in-True.is)

pub binds_once-returns-in-True-3 : goal.binds_once-returns-in-True-3
binds_once-returns-in-True-3 t c = holds (leaf_once _ c.in-True.is)

pub binds_once-returns-in-True-4 : goal.binds_once-returns-in-True-4
binds_once-returns-in-True-4 t c = holds (leaf_once _ c.in-True.is)
