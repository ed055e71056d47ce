use Rattle.std.proofs.Common.{refl, sym, ◌∙◌}
use Rattle.syn_term.proofs.Trees.{same_symbol}
use Rattle.syn_form.proofs.SortedTerms.{application_sorted}
use Rattle.syn_row.proofs.GuardParts.{call_guard, call_sorts, call_vars}
use Rattle.syn_row.proofs.OwnArgs.{own_args}
use Rattle.syn_row.proofs.guarding.guard.Goals as goal

pub guard_with-requires-clause-belongs : goal.guard_with-requires-clause-belongs
guard_with-requires-clause-belongs c = own_args _ _ _ _ _ _ (sym c.get.ensures ∙ c.in-App.is) c.as_slice.ensures c.requires.belongs

pub guard_with-requires-clause-sorted : goal.guard_with-requires-clause-sorted
guard_with-requires-clause-sorted c = ((application_sorted _ _ _ _ _ _ _ (sym c.get.ensures ∙ c.in-App.is) refl c.as_slice.ensures).0 c.requires.sorted).1

pub guard_with-requires-clause-sorts : goal.guard_with-requires-clause-sorts
guard_with-requires-clause-sorts c = call_sorts _ _ _ _ _ _ _ (sym c.get.ensures ∙ c.in-App.is) c.as_slice.ensures (same_symbol _ _ _ c.ne.ensures c.if-ne.false) c.requires.rule c.requires.sorted

pub returns-in-Ok-clause-guard : goal.returns-in-Ok-clause-guard
returns-in-Ok-clause-guard c = call_guard c.args.syms.now _ _ _ _ _ _ (sym c.get.ensures ∙ c.in-App.is) c.as_slice.ensures (same_symbol _ _ _ c.ne.ensures c.if-ne.false) _ c.in-Ok.ensures.tree

pub returns-in-Ok-clause-vars : goal.returns-in-Ok-clause-vars
returns-in-Ok-clause-vars c w k = call_vars _ _ _ _ _ w (sym c.get.ensures ∙ c.in-App.is) c.as_slice.ensures (c.in-Ok.ensures.vars w k)
