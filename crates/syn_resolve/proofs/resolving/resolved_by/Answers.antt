use Rattle.std.specs.Option.{option_copied}
use Rattle.std.proofs.lemmas.Option.{MatchOption-at_none}
use Rattle.syn_resolve.proofs.Instances.{binds_still}
use Rattle.syn_resolve.proofs.JointAnswers.{some_large}
use Rattle.syn_resolve.proofs.ReflexAnswers.{rule_still}
use Rattle.syn_resolve.proofs.resolving.resolved_by.Goals as goal

pub resolved_at-made-requires-clause-rule_own : goal.resolved_at-made-requires-clause-rule_own
resolved_at-made-requires-clause-rule_own c = rule_still _ _ (option_copied c.args.rule) c.both_instances.ensures.extends c.requires.rule_own

pub resolved_at-made-requires-clause-own : goal.resolved_at-made-requires-clause-own
resolved_at-made-requires-clause-own c = binds_still _ _ c.args.s.now c.both_instances.ensures.extends c.requires.own

pub returns-in-Ok-None-clause-row : goal.returns-in-Ok-None-clause-row
returns-in-Ok-None-clause-row c = some_large (option_copied c.args.rule) c.args.s.now c.args.at.now c.args.first.now c.args.second.now c.requires.there (MatchOption-at_none _ _ c.in-Ok-None.field-0-is c.in-Ok-None.ensures.rows)
