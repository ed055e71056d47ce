use Rattle.std.proofs.Common.{◌+◌, ◌*◌, ◌<◌, ◌∙◌, length, map, sum, ◌≡◌, None, refl, sym, ap, arith}
use Rattle.syn_term.specs.Bank.{Belongs, Belongs-extends, Extends-trans}
use Rattle.syn_term.specs.Terms.{bare, nodes}
use Rattle.syn_form.specs.Plain.{IsSorted}
use Rattle.syn_form.proofs.InputTerms.{fewer_args, refused}
use Rattle.syn_form.proofs.MadeTerms.{belongs_more, count_more, count_within, item_of, made_more, no_more_than_all}
use Rattle.syn_form.proofs.SortedTerms.{application_sorted}
use Rattle.syn_row.specs.inner.Renumbering.{renumbered}
use Rattle.syn_row.proofs.Keeping.{applies_still}
use Rattle.syn_row.proofs.OwnArgs.{own_args}
use Rattle.syn_row.proofs.renumbering.+terms.Goals as goal

pub renumber_term-renumber_terms-requires : goal.renumber_term-renumber_terms-requires
renumber_term-renumber_terms-requires t c =
    let is = sym c.get.ensures ∙ c.in-App.is in
    let fewer = fewer_args _ _ _ _ _ is c.as_slice.ensures in
    let less : 2 * sum (map nodes c.as_slice.result.now) + 1 < t = omega arith in
    (less, (c.requires.few, ((((application_sorted _ _ _ _ _ _ _ is refl c.as_slice.ensures).0 c.requires.sorted).1), own_args _ _ _ _ _ _ is c.as_slice.ensures c.requires.own)))

pub renumber_term-unreachable-requires : goal.renumber_term-unreachable-requires
renumber_term-unreachable-requires t c =
    let is = sym c.get.ensures ∙ c.in-App.is in
    let none : c.in-Ok-None.field-0 ≡ None = cc in
    refused _ _ _ none c.in-Ok-None.ensures.tree
    (applies_still _ _ _ _ _ _ _ _ _ is c.as_slice.ensures c.requires.sorted (ap (map bare) c.as_slice-in-App.ensures ∙ c.in_ok-parts-in-App.ensures.tree))

pub renumber_terms-renumber_term-requires : goal.renumber_terms-renumber_term-requires
renumber_terms-renumber_term-requires t c =
    let within : c.loop-t.t-index < length c.args.terms.now = omega arith in
    let most = no_more_than_all nodes _ _ _ _ within c.t-item.is in
    let less : 2 * nodes c.t-item.result < t = omega arith in
    (less, (c.requires.few, (item_of (IsSorted c.args.syms.now) _ _ _ _ within c.t-item.is c.requires.sorted, Belongs-extends _ _ _ c.loop-t.invariant.extends (item_of (Belongs _) _ _ _ _ within c.t-item.is c.requires.own))))

pub renumber_terms-returns-in_err-renumber_term-clause-made : goal.renumber_terms-returns-in_err-renumber_term-clause-made
renumber_terms-returns-in_err-renumber_term-clause-made t c = count_within nodes _ _ _ _ _ _ _ c.loop-t-test.true c.t-item.is c.loop-t.invariant.made c.renumber_term.ensures.made

pub renumber_terms-returns-in_err-push-clause-made : goal.renumber_terms-returns-in_err-push-clause-made
renumber_terms-returns-in_err-push-clause-made t c = count_within nodes _ _ _ _ _ _ _ c.loop-t-test.true c.t-item.is c.loop-t.invariant.made c.renumber_term.ensures.made

pub renumber_terms-loop-t-preserved : goal.renumber_terms-loop-t-preserved
renumber_terms-loop-t-preserved t c = record {
  tree = made_more bare (renumbered c.args.first c.args.vars.now) _ _ _ _ _ _ _ c.loop-t-test.true c.t-item.is c.loop-t.invariant.tree c.in_ok-renumber_term.ensures.tree c.in_ok-push.ensures.ok;
  made = count_more nodes _ _ _ _ _ _ _ c.loop-t-test.true c.t-item.is c.loop-t.invariant.made c.renumber_term.ensures.made;
  extends = Extends-trans _ _ _ c.loop-t.invariant.extends c.renumber_term.ensures.extends;
  belongs = belongs_more _ _ _ _ _ c.renumber_term.ensures.extends c.loop-t.invariant.belongs c.in_ok-renumber_term.ensures.belongs c.in_ok-push.ensures.ok;
}
