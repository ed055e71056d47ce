use Rattle.std.proofs.Common.{refl, ◌∙◌}
use Rattle.syn_form.proofs.Cuts.{OfBinders, binder_cut, binder_cuts, chain_cut, implication_cut, negation_cut}
use Rattle.syn_form.proofs.Deciding.{all_more, all_whole, fails, holds, not_all, same_fact, second_alone, unless_first, when_first}
use Rattle.syn_model.proofs.NewNames.{HasNewName}
use Rattle.syn_model.proofs.axioms.+binders.Goals as goal

pub bind_new_names-returns-then-not-binds_new_names : goal.bind_new_names-returns-then-not-binds_new_names
bind_new_names-returns-then-not-binds_new_names t c = fails (not_all (OfBinders (HasNewName c.args.theory.now.decls c.args.name.now)) _ _ _ _ c.loop-f-test.true c.f-item.is c.binds_new_names.ensures c.if-not-binds_new_names.true)

pub bind_new_names-loop-f-preserved : goal.bind_new_names-loop-f-preserved
bind_new_names-loop-f-preserved t c = all_more (OfBinders (HasNewName c.args.theory.now.decls c.args.name.now)) _ _ _ _ c.loop-f-test.true c.f-item.is c.binds_new_names.ensures c.if-not-binds_new_names.false c.loop-f.invariant

pub bind_new_names-returns : goal.bind_new_names-returns
bind_new_names-returns t c = holds (all_whole (OfBinders (HasNewName c.args.theory.now.decls c.args.name.now)) _ _ c.loop-f-test.false c.loop-f.invariant)

pub binds_new_names-returns-in-Not : goal.binds_new_names-returns-in-Not
binds_new_names-returns-in-Not t c = same_fact (negation_cut _ _ _ (binder_cuts (HasNewName c.args.theory.now.decls c.args.name.now)) _ _ _ c.in-Not.is c.get.ensures) c.binds_new_names.ensures

pub binds_new_names-returns-in-And : goal.binds_new_names-returns-in-And
binds_new_names-returns-in-And t c = same_fact (second_alone (chain_cut _ _ _ (binder_cuts (HasNewName c.args.theory.now.decls c.args.name.now)) _ _ _ c.in-And.is (c.as_slice.ensures ∙ c.get-in-And.ensures))) c.bind_new_names.ensures

pub binds_new_names-returns-then-binds_new_names : goal.binds_new_names-returns-then-binds_new_names
binds_new_names-returns-then-binds_new_names t c = when_first (implication_cut _ _ _ (binder_cuts (HasNewName c.args.theory.now.decls c.args.name.now)) _ _ _ _ _ c.in-Implies.is c.get-in-Implies.ensures c.get-then-binds_new_names.ensures) c.binds_new_names-in-Implies.ensures c.if-binds_new_names.true c.binds_new_names-then-binds_new_names.ensures

pub binds_new_names-returns-else-binds_new_names : goal.binds_new_names-returns-else-binds_new_names
binds_new_names-returns-else-binds_new_names t c = unless_first (implication_cut _ _ _ (binder_cuts (HasNewName c.args.theory.now.decls c.args.name.now)) _ _ _ _ _ c.in-Implies.is c.get-in-Implies.ensures refl) c.binds_new_names-in-Implies.ensures c.if-binds_new_names.false

pub binds_new_names-returns-then-has_new_name : goal.binds_new_names-returns-then-has_new_name
binds_new_names-returns-then-has_new_name t c = when_first (binder_cut _ _ _ (binder_cuts (HasNewName c.args.theory.now.decls c.args.name.now)) _ _ _ _ _ c.in-All.is refl c.get-then-has_new_name.ensures) c.has_new_name.ensures c.if-has_new_name.true c.binds_new_names-then-has_new_name.ensures

pub binds_new_names-returns-else-has_new_name : goal.binds_new_names-returns-else-has_new_name
binds_new_names-returns-else-has_new_name t c = unless_first (binder_cut _ _ _ (binder_cuts (HasNewName c.args.theory.now.decls c.args.name.now)) _ _ _ _ _ c.in-All.is refl refl) c.has_new_name.ensures c.if-has_new_name.false
