use Rattle.std.proofs.Common.{ℕ, List, IfOk, sym, subst}
use Rattle.syn_start.specs.declared.steps.Origin.{Origin}
use Rattle.syn_start.specs.declared.steps.Step.TheVariants as step
use Rattle.syn_start.specs.Initial.{DefRow, Exactly}
use Rattle.syn_step.specs.Steps.{StepGives}
use Rattle.syn_step.proofs.initial_rows.initial_row.Goals as goal

pub returns-in-Goal-clause-row : goal.returns-in-Goal-clause-row
returns-in-Goal-clause-row c = λ rows.
    subst (λ (z : Origin). IfOk c.goal_row.result (Exactly (StepGives c.args.start.now rows (step.Start z)))) (sym c.in-Goal.is) c.goal_row.ensures.row

pub returns-in-Input-clause-row : goal.returns-in-Input-clause-row
returns-in-Input-clause-row c = λ rows.
    subst (λ (z : Origin). IfOk c.input_row.result (Exactly (StepGives c.args.start.now rows (step.Start z)))) (sym c.in-Input.is) c.input_row.ensures.row

pub returns-in-Def-clause-row : goal.returns-in-Def-clause-row
returns-in-Def-clause-row c = λ rows.
    subst (λ (z : Origin). IfOk c.def_row.result (Exactly (StepGives c.args.start.now rows (step.Start z)))) (sym c.in-Def.is)
    (subst (λ (name : List ℕ). IfOk c.def_row.result (Exactly (DefRow (c.args.start.now).theory.decls name c.in-Def.clause))) c.as_str.ensures c.def_row.ensures.row)
