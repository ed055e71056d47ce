use Rattle.syn_form.proofs.InputTerms.{all_still}
use Rattle.syn_unify.proofs.Changed.{there_holds}
use Rattle.syn_row.specs.Rows.{row_terms}
use Rattle.syn_resolve.proofs.Instances.{binds_still}
use Rattle.syn_resolve.proofs.instance.both_instances.Goals as goal

pub instance-requires-2-clause-own : goal.instance-requires-2-clause-own
instance-requires-2-clause-own c = binds_still _ _ c.args.s.now c.instance.ensures.extends c.requires.own

pub instance-requires-2-clause-belongs : goal.instance-requires-2-clause-belongs
instance-requires-2-clause-belongs c = all_still _ _ (row_terms c.args.second.now) c.instance.ensures.extends c.requires.second_own

pub returns-in-Ok-Some-instance-clause-belongs : goal.returns-in-Ok-Some-instance-clause-belongs
returns-in-Ok-Some-instance-clause-belongs c = (
  all_still _ _ (row_terms c.in-Ok-Some.a) c.instance-2.ensures.extends (there_holds _ _ _ c.in-Ok-Some.field-0-is c.in-Ok-Some.ensures.belongs),
  there_holds _ _ _ c.in-Ok-Some-instance.field-0-is c.in-Ok-Some-instance.ensures.belongs,
)
