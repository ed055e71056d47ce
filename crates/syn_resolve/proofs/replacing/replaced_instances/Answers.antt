use Rattle.std.proofs.Common.{◌≡◌, List, map, sym, ◌∙◌, ap, subst}
use Rattle.std.specs.Option.{option_copied}
use Rattle.std.proofs.lemmas.Result.{IfOk-weaker}
use Rattle.std.proofs.lemmas.List.Elements.{All-contains}
use Rattle.syn_term.specs.Bank.{Belongs}
use Rattle.syn_form.specs.Trees.{FormTree, bare_form, form_terms}
use Rattle.syn_form.proofs.InputTerms.{all_still}
use Rattle.syn_row.specs.Guards.{joined_guards}
use Rattle.syn_row.specs.Rows.{IsPlain, row_terms}
use Rattle.syn_resolve.specs.inner.Replacing.{row_replaced}
use Rattle.syn_resolve.proofs.JointAnswers.{bank_of_both}
use Rattle.syn_resolve.proofs.ReplaceRows.{replaced_gives, replaced_plain}
use Rattle.syn_resolve.proofs.replacing.replaced_instances.Goals as goal

pub given_replaced-made-requires-clause-one : goal.given_replaced-made-requires-clause-one
given_replaced-made-requires-clause-one c = bank_of_both c.args.bank.now c.args.a.now c.args.e.now c.requires.first_own c.requires.equality_own

pub given_replaced-made-requires-clause-plain : goal.given_replaced-made-requires-clause-plain
given_replaced-made-requires-clause-plain c =
    subst (λ (z : List FormTree). IsPlain c.args.syms.now (row_replaced c.args.e.now c.args.place.now c.args.new.now c.args.a.now c.args.b.now z)) (sym c.as_slice.ensures)
    (replaced_plain c.args.syms.now c.args.s.now c.args.first.now c.args.second.now c.args.a.now c.args.b.now c.requires.first_instance c.requires.second_instance c.args.e.now c.args.place.now c.args.new.now _ c.requires.among c.requires.equality_among c.in_ok-guards.ensures.vars c.requires.side c.requires.may c.requires.pair c.requires.keeps c.requires.formed c.in_ok-guards.ensures.formed)

pub given_replaced-made-requires-clause-first_own : goal.given_replaced-made-requires-clause-first_own
given_replaced-made-requires-clause-first_own c = all_still _ _ (row_terms c.args.a.now) c.joint_guards.ensures.extends c.requires.first_own

pub given_replaced-made-requires-clause-second_own : goal.given_replaced-made-requires-clause-second_own
given_replaced-made-requires-clause-second_own c = all_still _ _ (row_terms c.args.b.now) c.joint_guards.ensures.extends c.requires.second_own

pub given_replaced-made-requires-clause-equality_own : goal.given_replaced-made-requires-clause-equality_own
given_replaced-made-requires-clause-equality_own c = all_still _ _ (form_terms c.args.e.now) c.joint_guards.ensures.extends c.requires.equality_own

pub given_replaced-made-requires-clause-side_own : goal.given_replaced-made-requires-clause-side_own
given_replaced-made-requires-clause-side_own c = All-contains (Belongs _) (form_terms c.args.e.now) c.args.new.now (all_still _ _ (form_terms c.args.e.now) c.joint_guards.ensures.extends c.requires.equality_own) c.requires.side

pub returns-clause-row : goal.returns-clause-row
returns-clause-row c =
    let guards : map bare_form c.as_slice.result.now ≡ map bare_form (joined_guards (option_copied c.args.rule) c.args.s.now c.args.e.now (c.args.first.now).out (c.args.second.now).out) = ap (map bare_form) c.as_slice.ensures ∙ c.in_ok-guards.ensures.guards in
    IfOk-weaker c.given_replaced-made.result _ _
    (λ o h. replaced_gives c.args.syms.now c.args.s.now c.args.first.now c.args.second.now c.args.a.now c.args.b.now c.requires.first_instance c.requires.second_instance c.args.e.now c.args.place.now c.args.new.now c.as_slice.result.now (option_copied c.args.rule) guards o h)
    c.given_replaced-made.ensures.row
