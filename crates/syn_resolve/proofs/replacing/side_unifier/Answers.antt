use Rattle.std.proofs.Common.{[]}
use Rattle.std.specs.Option.{option_map_or}
use Rattle.std.proofs.lemmas.Option.{MatchOption-at_none}
use Rattle.std.proofs.lemmas.Result.{IfOk-weaker}
use Rattle.syn_term.specs.Bank.{Belongs}
use Rattle.syn_form.specs.Trees.{form_terms, out_terms}
use Rattle.syn_form.proofs.Owned.{All-left}
use Rattle.syn_resolve.proofs.PartsAt.{term_belongs, term_sorted}
use Rattle.syn_resolve.proofs.ReplaceAnswers.{no_equality, no_term_there, side_answer, sought_belongs, sought_sorted}
use Rattle.syn_resolve.proofs.replacing.side_unifier.Goals as goal

pub unify_terms-requires-clause-left : goal.unify_terms-requires-clause-left
unify_terms-requires-clause-left c = sought_sorted c.args.at.now c.args.way (c.args.first.now).form _ _ _ c.in-Some.ensures c.side_sought.ensures c.args.syms.now c.requires.plain_first.form

pub unify_terms-requires-clause-right : goal.unify_terms-requires-clause-right
unify_terms-requires-clause-right c = term_sorted c.args.syms.now c.args.place.now (c.args.second.now).form _ c.in-Some-term_at.ensures c.requires.plain_second.form

pub unify_terms-requires-clause-left_own : goal.unify_terms-requires-clause-left_own
unify_terms-requires-clause-left_own c =
    sought_belongs c.args.at.now c.args.way (c.args.first.now).form _ _ _ c.in-Some.ensures c.side_sought.ensures _ (All-left (Belongs _) (form_terms (c.args.first.now).form) (option_map_or out_terms (c.args.first.now).out []) c.requires.own_first)

pub unify_terms-requires-clause-right_own : goal.unify_terms-requires-clause-right_own
unify_terms-requires-clause-right_own c =
    term_belongs _ c.args.place.now (c.args.second.now).form _ c.in-Some-term_at.ensures (All-left (Belongs _) (form_terms (c.args.second.now).form) (option_map_or out_terms (c.args.second.now).out []) c.requires.own_second)

pub returns-in-None-clause-unifier : goal.returns-in-None-clause-unifier
returns-in-None-clause-unifier c = no_equality c.args.syms.now c.args.at.now c.args.way c.args.place.now (c.args.first.now).form (c.args.second.now).form (MatchOption-at_none _ _ c.in-None.is c.equality_at.ensures)

pub returns-in-None-term_at-clause-unifier : goal.returns-in-None-term_at-clause-unifier
returns-in-None-term_at-clause-unifier c = no_term_there c.args.syms.now c.args.at.now c.args.way c.args.place.now (c.args.first.now).form (c.args.second.now).form (MatchOption-at_none _ _ c.in-None-term_at.is c.term_at.ensures)

pub returns-in-Some-term_at-clause-unifier : goal.returns-in-Some-term_at-clause-unifier
returns-in-Some-term_at-clause-unifier c =
    IfOk-weaker c.unify_terms.result _ _
    (λ o h. side_answer c.args.at.now c.args.way (c.args.first.now).form _ _ _ c.in-Some.ensures c.side_sought.ensures c.args.syms.now c.args.place.now (c.args.second.now).form _ c.in-Some-term_at.ensures o h)
    c.unify_terms.ensures.unifier
