use Rattle.std.proofs.Common.{[]}
use Rattle.std.specs.Option.{option_map_or}
use Rattle.std.proofs.lemmas.Option.{MatchOption-at_some}
use Rattle.std.proofs.lemmas.Result.{IfOk-weaker}
use Rattle.syn_term.specs.Bank.{Belongs}
use Rattle.syn_form.specs.Trees.{form_terms, out_terms}
use Rattle.syn_form.proofs.Owned.{All-left}
use Rattle.syn_resolve.proofs.PartsFormed.{parts_answer, parts_belong, parts_formed}
use Rattle.syn_resolve.proofs.parts.parts_unifier.Goals as goal

pub unify_forms-made-requires-clause-formed : goal.unify_forms-made-requires-clause-formed
unify_forms-made-requires-clause-formed c =
    parts_formed c.args.ps.now c.args.qs.now c.args.first.now c.args.second.now c.in-Ok-Some.parts _ (MatchOption-at_some _ _ _ c.in-Ok-Some.field-0-is c.in-Ok-Some.ensures) c.as_slice.ensures c.args.syms.now c.requires.plain_first.form c.requires.plain_second.form

pub unify_forms-made-requires-clause-own : goal.unify_forms-made-requires-clause-own
unify_forms-made-requires-clause-own c =
    parts_belong c.args.ps.now c.args.qs.now c.args.first.now c.args.second.now c.in-Ok-Some.parts _ (MatchOption-at_some _ _ _ c.in-Ok-Some.field-0-is c.in-Ok-Some.ensures) c.as_slice.ensures _
    (All-left (Belongs _) (form_terms (c.args.first.now).form) (option_map_or out_terms (c.args.first.now).out []) c.requires.own_first)
    (All-left (Belongs _) (form_terms (c.args.second.now).form) (option_map_or out_terms (c.args.second.now).out []) c.requires.own_second)

pub returns-in-Ok-Some-clause-unifier : goal.returns-in-Ok-Some-clause-unifier
returns-in-Ok-Some-clause-unifier c =
    IfOk-weaker c.unify_forms-made.result _ _
    (λ o h. parts_answer c.args.ps.now c.args.qs.now c.args.first.now c.args.second.now c.in-Ok-Some.parts c.as_slice.result.now (MatchOption-at_some _ _ _ c.in-Ok-Some.field-0-is c.in-Ok-Some.ensures) c.as_slice.ensures c.args.syms.now o h)
    c.unify_forms-made.ensures.unifier
