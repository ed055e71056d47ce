use Rattle.std.proofs.Common.{◌+◌, ◌*◌, ◌<◌, length, map, sum, refl, sym, ◌∙◌, arith}
use Rattle.syn_term.specs.Terms.{bare, nodes}
use Rattle.syn_term.proofs.Lists.{items_differ, next_same, wholes}
use Rattle.syn_form.proofs.Deciding.{fails, first_fails, holds, same_fact}
use Rattle.syn_form.proofs.InputTerms.{fewer_args}
use Rattle.syn_form.proofs.MadeTerms.{no_more_than_all}
use Rattle.syn_row.specs.inner.Renumbering.{renumbered}
use Rattle.syn_row.proofs.Keeping.{keeps_at_app, keeps_at_var}
use Rattle.syn_row.proofs.renumbering.+kept.Goals as goal

pub keeps_term-returns-in-Var : goal.keeps_term-returns-in-Var
keeps_term-returns-in-Var t c = same_fact (keeps_at_var c.args.first c.args.vars.now _ _ _ (sym c.get.ensures ∙ c.in-Var.is)) c.keeps_var.ensures

pub keeps_term-returns-in-App : goal.keeps_term-returns-in-App
keeps_term-returns-in-App t c = same_fact (keeps_at_app c.args.first c.args.vars.now _ _ _ _ _ (sym c.get.ensures ∙ c.in-App.is) c.as_slice.ensures) c.keeps_terms.ensures

pub keeps_term-keeps_terms-requires : goal.keeps_term-keeps_terms-requires
keeps_term-keeps_terms-requires t c =
    let fewer = fewer_args _ _ _ _ _ (sym c.get.ensures ∙ c.in-App.is) c.as_slice.ensures in
    let less : 2 * sum (map nodes c.as_slice.result.now) + 1 < t = omega arith in (less, c.requires)

pub keeps_terms-keeps_term-requires : goal.keeps_terms-keeps_term-requires
keeps_terms-keeps_term-requires t c =
    let within : c.loop-t.t-index < length c.args.terms.now = omega arith in
    let most = no_more_than_all nodes _ _ _ _ within c.t-item.is in
    let less : 2 * nodes c.t-item.result < t = omega arith in (less, c.requires)

pub keeps_terms-returns-then-not-keeps_term : goal.keeps_terms-returns-then-not-keeps_term
keeps_terms-returns-then-not-keeps_term t c = fails (items_differ (λ u. bare (renumbered c.args.first c.args.vars.now u)) bare _ _ _ _ _ c.t-item.is c.t-item.is c.loop-t-test.true c.loop-t-test.true (first_fails c.keeps_term.ensures c.if-not-keeps_term.true))

pub keeps_terms-loop-t-preserved : goal.keeps_terms-loop-t-preserved
keeps_terms-loop-t-preserved t c = next_same (λ u. bare (renumbered c.args.first c.args.vars.now u)) bare _ _ _ _ _ c.t-item.is c.t-item.is c.loop-t-test.true c.loop-t-test.true (c.keeps_term.ensures.0 c.if-not-keeps_term.false) c.loop-t.invariant

pub keeps_terms-returns : goal.keeps_terms-returns
keeps_terms-returns t c = holds (wholes (λ u. bare (renumbered c.args.first c.args.vars.now u)) bare _ _ _ refl c.loop-t-test.false c.loop-t.invariant)
