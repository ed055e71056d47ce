use Rattle.std.proofs.Common.{◌≡◌, List, map, sym, ◌∙◌, ap, subst}
use Rattle.std.specs.Option.{option_copied}
use Rattle.std.proofs.lemmas.Result.{IfOk-weaker}
use Rattle.syn_form.specs.Trees.{FormTree, OutTree, bare_form}
use Rattle.syn_form.proofs.InputTerms.{all_still}
use Rattle.syn_row.specs.Guards.{brought, guards_of}
use Rattle.syn_row.specs.Results.{out_list}
use Rattle.syn_row.specs.Rows.{IsPlain, row_terms}
use Rattle.syn_resolve.specs.Resolution.{reflexed}
use Rattle.syn_resolve.specs.inner.Reflexing.{guarded_figure, row_with_guards}
use Rattle.syn_resolve.proofs.SameFigures.{guarded_belongs, guarded_plain, reflexed_same, same_gives}
use Rattle.syn_resolve.proofs.reflexivity.reflexed_instance.Goals as goal

pub given_with-made-requires-clause-plain : goal.given_with-made-requires-clause-plain
given_with-made-requires-clause-plain c =
    subst (λ (z : List FormTree). IsPlain c.args.syms.now (row_with_guards c.args.instance.now z)) (sym c.as_slice.ensures)
    (guarded_plain c.args.s.now c.args.row.now c.args.instance.now c.requires.instance _ c.args.syms.now c.requires.plain c.requires.among c.requires.formed c.in_ok-guards.ensures.formed c.in_ok-guards.ensures.vars)

pub given_with-made-requires-clause-own : goal.given_with-made-requires-clause-own
given_with-made-requires-clause-own c = guarded_belongs _ c.args.instance.now _ _ c.as_slice.ensures (all_still _ _ (row_terms c.args.instance.now) c.brought_guards.ensures.extends c.requires.belongs) c.in_ok-guards.ensures.belongs

pub returns-clause-row : goal.returns-clause-row
returns-clause-row c =
    let guards : map bare_form c.as_slice.result.now ≡ map bare_form (guards_of (option_copied c.args.rule) (brought c.args.s.now (out_list (c.args.row.now).out))) =
    ap (map bare_form) c.as_slice.ensures ∙ (c.in_ok-guards.ensures.guards ∙ ap (λ (z : List OutTree). map bare_form (guards_of (option_copied c.args.rule) (brought c.args.s.now z))) c.outputs.ensures) in
    IfOk-weaker c.given_with-made.result _ _
    (λ o h. same_gives (guarded_figure c.args.instance.now c.as_slice.result.now) (reflexed (option_copied c.args.rule) c.args.s.now c.args.row.now) (reflexed_same c.args.s.now c.args.row.now c.args.instance.now c.requires.instance (option_copied c.args.rule) c.as_slice.result.now guards) o h)
    c.given_with-made.ensures.row
