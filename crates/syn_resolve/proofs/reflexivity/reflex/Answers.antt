use Rattle.std.specs.Option.{option_copied, option_map_or}
use Rattle.std.proofs.Common.{[]}
use Rattle.std.proofs.lemmas.Option.{MatchOption-at_none, MatchOption-at_some}
use Rattle.std.proofs.lemmas.Result.{IfOk-weaker}
use Rattle.syn_term.specs.Bank.{Belongs}
use Rattle.syn_form.specs.Trees.{form_terms, out_terms}
use Rattle.syn_form.proofs.InputTerms.{all_still}
use Rattle.syn_form.proofs.Owned.{All-left}
use Rattle.syn_row.specs.Rows.{row_terms}
use Rattle.syn_resolve.proofs.PartsAt.{sides_belong, sides_sorted}
use Rattle.syn_resolve.proofs.ReflexAnswers.{bound_among, no_unifier, reflex_answer, rule_still}
use Rattle.syn_resolve.proofs.reflexivity.reflex.Goals as goal

pub unify_terms-requires-clause-left : goal.unify_terms-requires-clause-left
unify_terms-requires-clause-left c = (sides_sorted c.args.syms.now c.args.at.now (c.args.row.now).form _ _ c.in-Some.ensures c.requires.plain.form).0

pub unify_terms-requires-clause-right : goal.unify_terms-requires-clause-right
unify_terms-requires-clause-right c = (sides_sorted c.args.syms.now c.args.at.now (c.args.row.now).form _ _ c.in-Some.ensures c.requires.plain.form).1

pub unify_terms-requires-clause-left_own : goal.unify_terms-requires-clause-left_own
unify_terms-requires-clause-left_own c =
    (sides_belong _ c.args.at.now (c.args.row.now).form _ _ c.in-Some.ensures (All-left (Belongs _) (form_terms (c.args.row.now).form) (option_map_or out_terms (c.args.row.now).out []) c.requires.own)).0

pub unify_terms-requires-clause-right_own : goal.unify_terms-requires-clause-right_own
unify_terms-requires-clause-right_own c =
    (sides_belong _ c.args.at.now (c.args.row.now).form _ _ c.in-Some.ensures (All-left (Belongs _) (form_terms (c.args.row.now).form) (option_map_or out_terms (c.args.row.now).out []) c.requires.own)).1

pub reflexed_by-made-requires-clause-rule_own : goal.reflexed_by-made-requires-clause-rule_own
reflexed_by-made-requires-clause-rule_own c = rule_still _ _ (option_copied c.args.rule) c.unify_terms.ensures.extends c.requires.rule_own

pub reflexed_by-made-requires-clause-among : goal.reflexed_by-made-requires-clause-among
reflexed_by-made-requires-clause-among c =
    bound_among c.args.syms.now (option_copied c.args.rule) c.args.row.now c.args.at.now _ _ c.in-Some.ensures c.in-Ok-Some.unifier (MatchOption-at_some _ _ _ c.in-Ok-Some.field-0-is c.in-Ok-Some.ensures.unifier)

pub reflexed_by-made-requires-clause-belongs : goal.reflexed_by-made-requires-clause-belongs
reflexed_by-made-requires-clause-belongs c = all_still _ _ (row_terms c.args.row.now) c.unify_terms.ensures.extends c.requires.own

pub returns-in-Ok-Some-clause-row : goal.returns-in-Ok-Some-clause-row
returns-in-Ok-Some-clause-row c =
    IfOk-weaker c.reflexed_by-made.result _ _
    (λ o h. reflex_answer c.args.syms.now (option_copied c.args.rule) c.args.row.now c.args.at.now _ _ c.in-Some.ensures c.in-Ok-Some.unifier (MatchOption-at_some _ _ _ c.in-Ok-Some.field-0-is c.in-Ok-Some.ensures.unifier) c.requires.rule c.requires.plain o h)
    c.reflexed_by-made.ensures.row

pub returns-in-Ok-None-clause-row : goal.returns-in-Ok-None-clause-row
returns-in-Ok-None-clause-row c = no_unifier c.args.syms.now (option_copied c.args.rule) c.args.row.now c.args.at.now _ _ c.in-Some.ensures (MatchOption-at_none _ _ c.in-Ok-None.field-0-is c.in-Ok-None.ensures.unifier)
