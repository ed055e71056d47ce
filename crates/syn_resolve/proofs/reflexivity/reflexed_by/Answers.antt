use Rattle.std.specs.Option.{option_copied}
use Rattle.std.proofs.lemmas.Option.{MatchOption-at_none}
use Rattle.syn_resolve.proofs.Instances.{binds_still}
use Rattle.syn_resolve.proofs.ReflexAnswers.{rule_still}
use Rattle.syn_resolve.proofs.SameFigures.{too_large}
use Rattle.syn_resolve.proofs.reflexivity.reflexed_by.Goals as goal

pub reflexed_instance-made-requires-clause-rule_own : goal.reflexed_instance-made-requires-clause-rule_own
reflexed_instance-made-requires-clause-rule_own c = rule_still _ _ (option_copied c.args.rule) c.instance.ensures.extends c.requires.rule_own

pub reflexed_instance-made-requires-clause-own : goal.reflexed_instance-made-requires-clause-own
reflexed_instance-made-requires-clause-own c = binds_still _ _ c.args.s.now c.instance.ensures.extends c.requires.own

pub returns-in-Ok-None-clause-row : goal.returns-in-Ok-None-clause-row
returns-in-Ok-None-clause-row c = too_large (option_copied c.args.rule) c.args.s.now c.args.row.now (MatchOption-at_none _ _ c.in-Ok-None.field-0-is c.in-Ok-None.ensures.tree)
