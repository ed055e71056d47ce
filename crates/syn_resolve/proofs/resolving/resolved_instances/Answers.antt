use Rattle.std.proofs.Common.{◌≡◌, List, map, sym, ◌∙◌, ap, subst}
use Rattle.std.specs.Option.{option_copied}
use Rattle.std.proofs.lemmas.Result.{IfOk-weaker}
use Rattle.syn_form.specs.Trees.{FormTree, bare_form, form_terms}
use Rattle.syn_form.proofs.InputTerms.{all_still}
use Rattle.syn_row.specs.Guards.{joined_guards}
use Rattle.syn_row.specs.Rows.{IsPlain, row_terms}
use Rattle.syn_resolve.specs.Resolution.{resolved}
use Rattle.syn_resolve.specs.inner.Resolving.{figure_of_both, row_of_both}
use Rattle.syn_resolve.proofs.JointAnswers.{bank_of_both}
use Rattle.syn_resolve.proofs.JointRows.{joint_belongs, resolved_same, whole_plain}
use Rattle.syn_resolve.proofs.SameFigures.{same_gives}
use Rattle.syn_resolve.proofs.resolving.resolved_instances.Goals as goal

pub given_of_both-made-requires-clause-first : goal.given_of_both-made-requires-clause-first
given_of_both-made-requires-clause-first c = bank_of_both c.args.bank.now c.args.a.now c.args.p.now c.requires.first_own c.requires.part_own

pub given_of_both-made-requires-clause-second : goal.given_of_both-made-requires-clause-second
given_of_both-made-requires-clause-second c = bank_of_both c.args.bank.now c.args.b.now c.args.p.now c.requires.second_own c.requires.part_own

pub given_of_both-made-requires-clause-plain : goal.given_of_both-made-requires-clause-plain
given_of_both-made-requires-clause-plain c =
    let i = c.requires.first_instance in
    let j = c.requires.second_instance in
    subst (λ (z : List FormTree). IsPlain c.args.syms.now (row_of_both c.args.p.now c.args.a.now c.args.b.now z)) (sym c.as_slice.ensures)
    (whole_plain c.args.s.now c.args.first.now c.args.second.now c.args.a.now c.args.b.now i.is j.is c.args.p.now _ c.requires.among c.requires.part_among c.in_ok-guards.ensures.vars c.args.syms.now c.requires.keeps c.requires.pair.sorts c.requires.pair.given c.requires.formed (i.formed, i.formed_out) (j.formed, j.formed_out) c.in_ok-guards.ensures.formed)

pub given_of_both-made-requires-clause-own : goal.given_of_both-made-requires-clause-own
given_of_both-made-requires-clause-own c =
    joint_belongs _ c.args.p.now c.args.a.now c.args.b.now _ _ c.as_slice.ensures (all_still _ _ (form_terms c.args.p.now) c.joint_guards.ensures.extends c.requires.part_own) (all_still _ _ (row_terms c.args.a.now) c.joint_guards.ensures.extends c.requires.first_own) (all_still _ _ (row_terms c.args.b.now) c.joint_guards.ensures.extends c.requires.second_own) c.in_ok-guards.ensures.belongs

pub returns-clause-row : goal.returns-clause-row
returns-clause-row c =
    let guards : map bare_form c.as_slice.result.now ≡ map bare_form (joined_guards (option_copied c.args.rule) c.args.s.now c.args.p.now (c.args.first.now).out (c.args.second.now).out) = ap (map bare_form) c.as_slice.ensures ∙ c.in_ok-guards.ensures.guards in
    IfOk-weaker c.given_of_both-made.result _ _
    (λ o h. same_gives (figure_of_both c.args.p.now c.args.a.now c.args.b.now c.as_slice.result.now) (resolved (option_copied c.args.rule) c.args.s.now c.args.p.now c.args.first.now c.args.second.now)
    (resolved_same c.args.s.now c.args.first.now c.args.second.now c.args.a.now c.args.b.now c.requires.first_instance.is c.requires.second_instance.is c.args.p.now (option_copied c.args.rule) c.as_slice.result.now guards) o h)
    c.given_of_both-made.ensures.row
