use Rattle.std.proofs.Common.{◌≡◌, ◌+◌, ◌*◌, ◌<◌, ◌∙◌, length, map, sum, None, sym, arith}
use Rattle.syn_term.specs.Bank.{Extends-trans}
use Rattle.syn_term.specs.Terms.{nodes}
use Rattle.syn_form.specs.Plain.{IsSorted}
use Rattle.syn_form.proofs.InputTerms.{fewer_args, refused}
use Rattle.syn_form.proofs.MadeTerms.{belongs_more, item_of, no_more_than_all}
use Rattle.syn_form.proofs.SortedTerms.{application_sorted}
use Rattle.syn_start.proofs.MadeAgain.{again_more, applies_along}
use Rattle.syn_start.proofs.owning.+owned.Goals as goal

pub own_term-own_terms-requires : goal.own_term-own_terms-requires
own_term-own_terms-requires t c =
    let is = sym c.get.ensures ∙ c.in-App.is in
    let fewer = fewer_args _ _ _ _ _ is c.as_slice.ensures in
    let less : 2 * sum (map nodes c.as_slice.result.now) + 1 < t = omega arith in
    (less, ((application_sorted _ _ _ _ _ _ _ is c.as_slice.ensures c.as_slice.ensures).0 c.requires).1)

pub own_term-unreachable-requires : goal.own_term-unreachable-requires
own_term-unreachable-requires t c =
    let is = sym c.get.ensures ∙ c.in-App.is in
    let none : c.in-Ok-None.field-0 ≡ None = cc in
    refused _ _ _ none c.in-Ok-None.ensures.tree
    (applies_along _ _ _ _ c.in_ok-parts-in-App.ensures.tree (((application_sorted _ _ _ _ _ _ _ is c.as_slice.ensures c.as_slice.ensures).0 c.requires).0.0))

pub own_terms-own_term-requires : goal.own_terms-own_term-requires
own_terms-own_term-requires t c =
    let within : c.loop-t.t-index < length c.args.ts.now = omega arith in
    let most = no_more_than_all nodes _ _ _ _ within c.t-item.is in
    let less : 2 * nodes c.t-item.result < t = omega arith in
    (less, item_of (IsSorted c.args.syms.now) _ _ _ _ within c.t-item.is c.requires)

pub own_terms-loop-t-preserved : goal.own_terms-loop-t-preserved
own_terms-loop-t-preserved t c = record {
  tree = again_more _ _ _ _ _ _ _ c.loop-t-test.true c.t-item.is c.loop-t.invariant.tree c.in_ok-own_term.ensures.tree c.in_ok-push.ensures.ok;
  extends = Extends-trans _ _ _ c.loop-t.invariant.extends c.own_term.ensures.extends;
  belongs = belongs_more _ _ _ _ _ c.own_term.ensures.extends c.loop-t.invariant.belongs c.in_ok-own_term.ensures.belongs c.in_ok-push.ensures.ok;
}
