use Rattle.syn_start.proofs.RuleLaws.{inputs_applied, made_belongs, made_rule}
use Rattle.syn_start.proofs.guard_rule.rule_with.Goals as goal

pub own_inputs-requires : goal.own_inputs-requires
own_inputs-requires c = inputs_applied c.symbols.result.now c.args.spec.now c.inputs.result.now c.symbols.ensures.table c.inputs.ensures

pub returns-in-Ok-clause-rule : goal.returns-in-Ok-clause-rule
returns-in-Ok-clause-rule c =
    made_rule c.program.result c.args.order c.in_ok-inputs.inputs c.in-Ok.condition c.args.spec.now c.inputs.result.now
    c.requires c.program.ensures c.inputs.ensures c.in_ok-inputs.ensures.ids c.in_ok-inputs.ensures.own c.in-Ok.ensures.tree

pub returns-in-Ok-clause-belongs : goal.returns-in-Ok-clause-belongs
returns-in-Ok-clause-belongs c =
    made_belongs c.program.result c.args.order c.in_ok-inputs.inputs c.in-Ok.condition c.own_inputs.new.bank c.own_condition.new.bank
    c.own_condition.ensures.extends c.in_ok-inputs.ensures.belongs c.in-Ok.ensures.belongs
