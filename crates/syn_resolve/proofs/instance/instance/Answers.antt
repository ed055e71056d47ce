use Rattle.syn_resolve.proofs.Instances.{binds_still, both_belong, output_still}
use Rattle.syn_unify.proofs.Changed.{there_holds}
use Rattle.syn_resolve.proofs.instance.instance.Goals as goal

pub output_instance-requires-clause-own : goal.output_instance-requires-clause-own
output_instance-requires-clause-own c = binds_still _ _ c.args.s.now c.apply.ensures.extends c.requires.own

pub output_instance-requires-clause-belongs : goal.output_instance-requires-clause-belongs
output_instance-requires-clause-belongs c = output_still _ _ c.args.row.now c.apply.ensures.extends c.requires.belongs

pub returns-in-Ok-Some-output_instance-clause-belongs : goal.returns-in-Ok-Some-output_instance-clause-belongs
returns-in-Ok-Some-output_instance-clause-belongs c = both_belong _ _ c.in-Ok-Some.form c.in-Ok-Some-output_instance.out c.output_instance.ensures.extends (there_holds _ _ _ c.in-Ok-Some.field-0-is c.in-Ok-Some.ensures.belongs) (there_holds _ _ _ c.in-Ok-Some-output_instance.field-0-is c.in-Ok-Some-output_instance.ensures.belongs)
