use Rattle.std.proofs.Common.{inr}
use Rattle.std.specs.Option.{option_copied}
use Rattle.std.proofs.lemmas.Option.{MatchOption-at_none}
use Rattle.std.proofs.lemmas.Result.{IfOk-weaker}
use Rattle.syn_form.proofs.InputTerms.{all_still}
use Rattle.syn_row.specs.Rows.{row_terms}
use Rattle.syn_resolve.proofs.ReflexAnswers.{rule_still}
use Rattle.syn_resolve.proofs.ReplaceAnswers.{apart_given}
use Rattle.syn_resolve.proofs.replacing.replaced_apart.Goals as goal

pub replaced_by-made-requires-clause-rule_own : goal.replaced_by-made-requires-clause-rule_own
replaced_by-made-requires-clause-rule_own c = rule_still _ _ (option_copied c.args.rule) c.side_unifier.ensures.extends c.requires.rule_own

pub replaced_by-made-requires-clause-first_own : goal.replaced_by-made-requires-clause-first_own
replaced_by-made-requires-clause-first_own c = all_still _ _ (row_terms c.args.first.now) c.side_unifier.ensures.extends c.requires.first_own

pub replaced_by-made-requires-clause-second_own : goal.replaced_by-made-requires-clause-second_own
replaced_by-made-requires-clause-second_own c = all_still _ _ (row_terms c.args.second.now) c.side_unifier.ensures.extends c.requires.second_own

pub returns-in-Ok-Some-clause-row : goal.returns-in-Ok-Some-clause-row
returns-in-Ok-Some-clause-row c =
    IfOk-weaker c.replaced_by-made.result _ _
    (λ o h. apart_given c.args.syms.now (option_copied c.args.rule) c.args.at.now c.args.way c.args.place.now c.args.first.now c.args.second.now c.in-Ok-Some.s o h)
    c.replaced_by-made.ensures.row

pub returns-in-Ok-None-clause-row : goal.returns-in-Ok-None-clause-row
returns-in-Ok-None-clause-row c = inr (MatchOption-at_none _ _ c.in-Ok-None.field-0-is c.in-Ok-None.ensures.unifier)
