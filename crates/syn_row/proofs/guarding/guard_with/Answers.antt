use Rattle.std.proofs.lemmas.Result.{IfOk-weaker}
use Rattle.syn_row.proofs.GuardParts.{guard_belongs, guard_formed, guard_vars}
use Rattle.syn_row.proofs.guarding.guard_with.Goals as goal

pub returns-in-Ok-clause-formed : goal.returns-in-Ok-clause-formed
returns-in-Ok-clause-formed c = IfOk-weaker c.both_of.result _ _ (λ h e. guard_formed _ _ c.requires.rule _ _ c.as_slice.ensures _ _ h c.in_ok-atom.ensures e c.requires.sorted c.requires.sorts c.in-Ok.ensures.formed) c.both_of.ensures

pub returns-in-Ok-clause-vars : goal.returns-in-Ok-clause-vars
returns-in-Ok-clause-vars c = IfOk-weaker c.both_of.result _ _ (λ h e. guard_vars _ _ c.requires.rule _ _ c.as_slice.ensures _ _ h c.in_ok-atom.ensures e c.in-Ok.ensures.vars) c.both_of.ensures

pub returns-in-Ok-clause-belongs : goal.returns-in-Ok-clause-belongs
returns-in-Ok-clause-belongs c = IfOk-weaker c.both_of.result _ _ (λ h e. guard_belongs _ _ _ c.put_condition.ensures.extends c.requires.own _ _ c.as_slice.ensures c.requires.belongs _ _ h c.in_ok-atom.ensures e c.in-Ok.ensures.belongs) c.both_of.ensures
