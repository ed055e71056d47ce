use Rattle.std.proofs.lemmas.Result.{IfOk-weaker}
use Rattle.syn_form.proofs.InputTerms.{all_still}
use Rattle.syn_row.specs.Rows.{row_terms}
use Rattle.syn_step.proofs.StepLaws.{step_canonical}
use Rattle.syn_replay.proofs.OneStep.{follows_told, nothing_follows, plain_over, ready_over, step_gives}
use Rattle.syn_replay.proofs.following.follows.Goals as goal

pub is_variant-is-requires-clause-plain : goal.is_variant-is-requires-clause-plain
is_variant-is-requires-clause-plain c = plain_over c.args.start.now c.spec.result.now c.symbols.result.now c.args.row.now c.symbols.ensures.table c.spec.ensures.is c.requires.row.plain

pub is_variant-is-requires-clause-own : goal.is_variant-is-requires-clause-own
is_variant-is-requires-clause-own c = all_still c.args.bank.now c.result.new.bank (row_terms c.args.row.now) c.result.ensures.extends c.requires.row.belongs

pub is_variant-is-requires-clause-ready : goal.is_variant-is-requires-clause-ready
is_variant-is-requires-clause-ready c =
    ready_over c.args.start.now c.spec.result.now c.symbols.result.now c.result.new.bank c.in-Ok-Some.made c.in-Ok-Some.field-0 c.symbols.ensures.table c.spec.ensures.is c.in-Ok-Some.field-0-is c.in-Ok-Some.ensures.ready

pub is_variant-is-requires-clause-canonical : goal.is_variant-is-requires-clause-canonical
is_variant-is-requires-clause-canonical c =
    step_canonical c.args.start.now c.args.rows.now c.args.step.now c.in-Ok-Some.made
    (step_gives c.args.start.now c.args.rows.now c.args.step.now c.in-Ok-Some.made c.in-Ok-Some.field-0 c.in-Ok-Some.field-0-is c.in-Ok-Some.ensures.row)

pub returns-in-Ok-Some-clause-follows : goal.returns-in-Ok-Some-clause-follows
returns-in-Ok-Some-clause-follows c =
    let gives = step_gives c.args.start.now c.args.rows.now c.args.step.now c.in-Ok-Some.made c.in-Ok-Some.field-0 c.in-Ok-Some.field-0-is c.in-Ok-Some.ensures.row in
    IfOk-weaker c.is_variant-is.result _ _
    (λ b t. follows_told c.args.start.now c.args.rows.now c.args.step.now c.args.bank.now c.args.row.now c.in-Ok-Some.made b c.spec.ensures.start c.requires.rows gives t)
    c.is_variant-is.ensures.variant

pub returns-in-Ok-None-clause-follows : goal.returns-in-Ok-None-clause-follows
returns-in-Ok-None-clause-follows c = nothing_follows c.args.start.now c.args.rows.now c.args.step.now c.args.row.now c.in-Ok-None.field-0 c.in-Ok-None.field-0-is c.in-Ok-None.ensures.row
