use Rattle.std.proofs.Common.{refl, ◌∙◌}
use Rattle.syn_form.specs.PlainQuantified.{MayBind}
use Rattle.syn_form.proofs.Cuts.{OfBinders, binder_cut, binder_cuts, chain_cut, implication_cut, negation_cut}
use Rattle.syn_form.proofs.Deciding.{all_more, all_whole, fails, holds, not_all, same_fact, second_alone, unless_first, when_first}
use Rattle.syn_form.proofs.binders.+binders.Goals as goal

pub all_may_bind-returns-then-not-binders_may_bind : goal.all_may_bind-returns-then-not-binders_may_bind
all_may_bind-returns-then-not-binders_may_bind t c = fails (not_all (OfBinders (MayBind c.args.syms.now)) _ _ _ _ c.loop-f-test.true c.f-item.is c.binders_may_bind.ensures c.if-not-binders_may_bind.true)

pub all_may_bind-loop-f-preserved : goal.all_may_bind-loop-f-preserved
all_may_bind-loop-f-preserved t c = all_more (OfBinders (MayBind c.args.syms.now)) _ _ _ _ c.loop-f-test.true c.f-item.is c.binders_may_bind.ensures c.if-not-binders_may_bind.false c.loop-f.invariant

pub all_may_bind-returns : goal.all_may_bind-returns
all_may_bind-returns t c = holds (all_whole (OfBinders (MayBind c.args.syms.now)) _ _ c.loop-f-test.false c.loop-f.invariant)

pub binders_may_bind-returns-in-Not : goal.binders_may_bind-returns-in-Not
binders_may_bind-returns-in-Not t c = same_fact (negation_cut _ _ _ (binder_cuts (MayBind c.args.syms.now)) _ _ _ c.in-Not.is c.get.ensures) c.binders_may_bind.ensures

pub binders_may_bind-returns-in-And : goal.binders_may_bind-returns-in-And
binders_may_bind-returns-in-And t c = same_fact (second_alone (chain_cut _ _ _ (binder_cuts (MayBind c.args.syms.now)) _ _ _ c.in-And.is (c.as_slice.ensures ∙ c.get-in-And.ensures))) c.all_may_bind.ensures

pub binders_may_bind-returns-then-binders_may_bind : goal.binders_may_bind-returns-then-binders_may_bind
binders_may_bind-returns-then-binders_may_bind t c = when_first (implication_cut _ _ _ (binder_cuts (MayBind c.args.syms.now)) _ _ _ _ _ c.in-Implies.is c.get-in-Implies.ensures c.get-then-binders_may_bind.ensures) c.binders_may_bind-in-Implies.ensures c.if-binders_may_bind.true c.binders_may_bind-then-binders_may_bind.ensures

pub binders_may_bind-returns-else-binders_may_bind : goal.binders_may_bind-returns-else-binders_may_bind
binders_may_bind-returns-else-binders_may_bind t c = unless_first (implication_cut _ _ _ (binder_cuts (MayBind c.args.syms.now)) _ _ _ _ _ c.in-Implies.is c.get-in-Implies.ensures refl) c.binders_may_bind-in-Implies.ensures c.if-binders_may_bind.false

pub binders_may_bind-returns-then-may_bind : goal.binders_may_bind-returns-then-may_bind
binders_may_bind-returns-then-may_bind t c = when_first (binder_cut _ _ _ (binder_cuts (MayBind c.args.syms.now)) _ _ _ _ _ c.in-All.is refl c.get-then-may_bind.ensures) c.may_bind.ensures c.if-may_bind.true c.binders_may_bind-then-may_bind.ensures

pub binders_may_bind-returns-else-may_bind : goal.binders_may_bind-returns-else-may_bind
binders_may_bind-returns-else-may_bind t c = unless_first (binder_cut _ _ _ (binder_cuts (MayBind c.args.syms.now)) _ _ _ _ _ c.in-All.is refl refl) c.may_bind.ensures c.if-may_bind.false
