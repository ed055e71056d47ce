use Rattle.std.specs.Option.{option_copied}
use Rattle.std.proofs.lemmas.Option.{MatchOption-at_none}
use Rattle.syn_resolve.proofs.Instances.{binds_still}
use Rattle.syn_resolve.proofs.ReflexAnswers.{rule_still}
use Rattle.syn_resolve.proofs.ReplaceAnswers.{side_large}
use Rattle.syn_resolve.proofs.replacing.replaced_by.Goals as goal

pub replaced_in-made-requires-clause-rule_own : goal.replaced_in-made-requires-clause-rule_own
replaced_in-made-requires-clause-rule_own c = rule_still _ _ (option_copied c.args.rule) c.both_instances.ensures.extends c.requires.rule_own

pub replaced_in-made-requires-clause-own : goal.replaced_in-made-requires-clause-own
replaced_in-made-requires-clause-own c = binds_still _ _ c.args.s.now c.both_instances.ensures.extends c.requires.own

pub returns-in-Ok-None-clause-row : goal.returns-in-Ok-None-clause-row
returns-in-Ok-None-clause-row c = side_large c.args.syms.now c.args.at.now c.args.way c.args.place.now c.args.first.now c.args.second.now c.args.s.now c.requires.unifies (option_copied c.args.rule) (MatchOption-at_none _ _ c.in-Ok-None.field-0-is c.in-Ok-None.ensures.rows)
