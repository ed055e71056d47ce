use Rattle.std.specs.Option.{option_copied}
use Rattle.std.proofs.lemmas.Option.{MatchOption-at_none}
use Rattle.syn_form.proofs.InputTerms.{all_still}
use Rattle.syn_row.specs.Rows.{row_terms}
use Rattle.syn_resolve.proofs.ApartAnswers.{no_unified}
use Rattle.syn_resolve.proofs.ReflexAnswers.{rule_still}
use Rattle.syn_resolve.proofs.resolving.resolved_apart.Goals as goal

pub resolved_parts-made-requires-clause-rule_own : goal.resolved_parts-made-requires-clause-rule_own
resolved_parts-made-requires-clause-rule_own c = rule_still _ _ (option_copied c.args.rule) c.parts_unifier.ensures.extends c.requires.rule_own

pub resolved_parts-made-requires-clause-first_own : goal.resolved_parts-made-requires-clause-first_own
resolved_parts-made-requires-clause-first_own c = all_still _ _ (row_terms c.args.first.now) c.parts_unifier.ensures.extends c.requires.first_own

pub resolved_parts-made-requires-clause-second_own : goal.resolved_parts-made-requires-clause-second_own
resolved_parts-made-requires-clause-second_own c = all_still _ _ (row_terms c.args.second.now) c.parts_unifier.ensures.extends c.requires.second_own

pub returns-in-Ok-None-clause-row : goal.returns-in-Ok-None-clause-row
returns-in-Ok-None-clause-row c = no_unified c.args.syms.now (option_copied c.args.rule) c.args.ps.now c.args.qs.now c.args.first.now c.args.second.now (MatchOption-at_none _ _ c.in-Ok-None.field-0-is c.in-Ok-None.ensures.unifier)
