use Rattle.std.proofs.Common.{IfOk, sym, subst}
use Rattle.syn_start.specs.declared.steps.Step.{Step}
use Rattle.syn_start.specs.Initial.{Exactly}
use Rattle.syn_step.specs.Steps.{StepGives}
use Rattle.syn_step.proofs.NumberedRows.{resolve_lent}
use Rattle.syn_step.proofs.StepOutputs.{result_fits}
use Rattle.syn_step.proofs.results.result.Goals as goal

pub returns-in-Start-clause-row : goal.returns-in-Start-clause-row
returns-in-Start-clause-row c = subst (λ (z : Step). IfOk c.initial_row.result (Exactly (StepGives c.args.start.now c.args.rows.now z))) (sym c.in-Start.is) (c.initial_row.ensures.row c.args.rows.now)

pub returns-in-Start-clause-output : goal.returns-in-Start-clause-output
returns-in-Start-clause-output c =
    result_fits c.args.start.now c.args.bank.now c.args.rows.now c.requires.rows c.args.step.now c.initial_row.result
    (subst (λ (z : Step). IfOk c.initial_row.result (Exactly (StepGives c.args.start.now c.args.rows.now z))) (sym c.in-Start.is) (c.initial_row.ensures.row c.args.rows.now))

pub returns-in-Split-clause-row : goal.returns-in-Split-clause-row
returns-in-Split-clause-row c = subst (λ (z : Step). IfOk c.split_row.result (Exactly (StepGives c.args.start.now c.args.rows.now z))) (sym c.in-Split.is) c.split_row.ensures.row

pub returns-in-Split-clause-output : goal.returns-in-Split-clause-output
returns-in-Split-clause-output c =
    result_fits c.args.start.now c.args.bank.now c.args.rows.now c.requires.rows c.args.step.now c.split_row.result
    (subst (λ (z : Step). IfOk c.split_row.result (Exactly (StepGives c.args.start.now c.args.rows.now z))) (sym c.in-Split.is) c.split_row.ensures.row)

pub returns-in-Dual-clause-row : goal.returns-in-Dual-clause-row
returns-in-Dual-clause-row c = subst (λ (z : Step). IfOk c.dual_row.result (Exactly (StepGives c.args.start.now c.args.rows.now z))) (sym c.in-Dual.is) c.dual_row.ensures.row

pub returns-in-Dual-clause-output : goal.returns-in-Dual-clause-output
returns-in-Dual-clause-output c =
    result_fits c.args.start.now c.args.bank.now c.args.rows.now c.requires.rows c.args.step.now c.dual_row.result
    (subst (λ (z : Step). IfOk c.dual_row.result (Exactly (StepGives c.args.start.now c.args.rows.now z))) (sym c.in-Dual.is) c.dual_row.ensures.row)

pub returns-in-Reflex-clause-row : goal.returns-in-Reflex-clause-row
returns-in-Reflex-clause-row c = subst (λ (z : Step). IfOk c.reflex_row.result (Exactly (StepGives c.args.start.now c.args.rows.now z))) (sym c.in-Reflex.is) c.reflex_row.ensures.row

pub returns-in-Reflex-clause-output : goal.returns-in-Reflex-clause-output
returns-in-Reflex-clause-output c =
    result_fits c.args.start.now c.args.bank.now c.args.rows.now c.requires.rows c.args.step.now c.reflex_row.result
    (subst (λ (z : Step). IfOk c.reflex_row.result (Exactly (StepGives c.args.start.now c.args.rows.now z))) (sym c.in-Reflex.is) c.reflex_row.ensures.row)

pub returns-in-Resolve-clause-row : goal.returns-in-Resolve-clause-row
returns-in-Resolve-clause-row c = resolve_lent (λ (z : Step). IfOk c.resolve_rows.result (Exactly (StepGives c.args.start.now c.args.rows.now z))) c.args.step.now c.in-Resolve.first c.in-Resolve.second c.in-Resolve.ps c.in-Resolve.qs c.as_slice.result.now c.as_slice-in-Resolve.result.now c.in-Resolve.is c.as_slice.ensures c.as_slice-in-Resolve.ensures c.resolve_rows.ensures.row

pub returns-in-Resolve-clause-output : goal.returns-in-Resolve-clause-output
returns-in-Resolve-clause-output c =
    result_fits c.args.start.now c.args.bank.now c.args.rows.now c.requires.rows c.args.step.now c.resolve_rows.result
    (resolve_lent (λ (z : Step). IfOk c.resolve_rows.result (Exactly (StepGives c.args.start.now c.args.rows.now z))) c.args.step.now c.in-Resolve.first c.in-Resolve.second c.in-Resolve.ps c.in-Resolve.qs c.as_slice.result.now c.as_slice-in-Resolve.result.now c.in-Resolve.is c.as_slice.ensures c.as_slice-in-Resolve.ensures c.resolve_rows.ensures.row)

pub returns-in-Equal-clause-row : goal.returns-in-Equal-clause-row
returns-in-Equal-clause-row c = subst (λ (z : Step). IfOk c.equal_rows.result (Exactly (StepGives c.args.start.now c.args.rows.now z))) (sym c.in-Equal.is) c.equal_rows.ensures.row

pub returns-in-Equal-clause-output : goal.returns-in-Equal-clause-output
returns-in-Equal-clause-output c =
    result_fits c.args.start.now c.args.bank.now c.args.rows.now c.requires.rows c.args.step.now c.equal_rows.result
    (subst (λ (z : Step). IfOk c.equal_rows.result (Exactly (StepGives c.args.start.now c.args.rows.now z))) (sym c.in-Equal.is) c.equal_rows.ensures.row)
