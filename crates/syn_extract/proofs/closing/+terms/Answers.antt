use Rattle.std.proofs.Common.{◌≡◌, ◌+◌, ◌*◌, ◌<◌, ◌∙◌, length, map, sum, None, sym, arith}
use Rattle.syn_term.specs.Bank.{Extends-trans}
use Rattle.syn_term.specs.Terms.{bare, nodes, sort_of}
use Rattle.syn_form.specs.Plain.{IsSorted}
use Rattle.syn_form.proofs.InputTerms.{fewer_args, refused}
use Rattle.syn_form.proofs.MadeTerms.{belongs_more, item_of, no_more_than_all}
use Rattle.syn_form.proofs.SortedTerms.{application_sorted, variable_sorted}
use Rattle.syn_extract.specs.Final.{closed_term}
use Rattle.syn_extract.proofs.ClosedTerms.{applies_alike, made_more}
use Rattle.syn_extract.proofs.closing.+terms.Goals as goal

pub close_term-close_terms-requires : goal.close_term-close_terms-requires
close_term-close_terms-requires t c =
    let is = sym c.get.ensures ∙ c.in-App.is in
    let fewer = fewer_args _ _ _ _ _ is c.as_slice.ensures in
    let less : 2 * sum (map nodes c.as_slice.result.now) + 1 < t = omega arith in
    (less, ((application_sorted _ _ _ _ _ _ _ is c.as_slice.ensures c.as_slice.ensures).0 c.requires).1)

pub close_term-unreachable-requires : goal.close_term-unreachable-requires
close_term-unreachable-requires t c =
    let is = sym c.get.ensures ∙ c.in-App.is in
    let none : c.in-Ok-None.field-0 ≡ None = cc in
    refused _ _ _ none c.in-Ok-None.ensures.tree
    (applies_alike _ _ _ _ c.in_ok-parts-in-App.ensures.sort (((application_sorted _ _ _ _ _ _ _ is c.as_slice.ensures c.as_slice.ensures).0 c.requires).0.0))

pub close_terms-close_term-requires : goal.close_terms-close_term-requires
close_terms-close_term-requires t c =
    let within : c.loop-t.t-index < length c.args.ts.now = omega arith in
    let most = no_more_than_all nodes _ _ _ _ within c.t-item.is in
    let less : 2 * nodes c.t-item.result < t = omega arith in
    (less, item_of (IsSorted c.args.syms.now) _ _ _ _ within c.t-item.is c.requires)

pub close_terms-loop-t-preserved : goal.close_terms-loop-t-preserved
close_terms-loop-t-preserved t c = record {
  tree = made_more bare (closed_term c.args.syms.now) _ _ _ _ _ _ _ c.loop-t-test.true c.t-item.is c.loop-t.invariant.tree c.in_ok-close_term.ensures.tree c.in_ok-push.ensures.ok;
  sort = made_more (sort_of c.args.syms.now) (sort_of c.args.syms.now) _ _ _ _ _ _ _ c.loop-t-test.true c.t-item.is c.loop-t.invariant.sort c.in_ok-close_term.ensures.sort c.in_ok-push.ensures.ok;
  extends = Extends-trans _ _ _ c.loop-t.invariant.extends c.close_term.ensures.extends;
  belongs = belongs_more _ _ _ _ _ c.close_term.ensures.extends c.loop-t.invariant.belongs c.in_ok-close_term.ensures.belongs c.in_ok-push.ensures.ok;
}

pub close_term-default_term-requires : goal.close_term-default_term-requires
close_term-default_term-requires t c = (variable_sorted _ _ _ _ (sym c.get.ensures ∙ c.in-Var.is)).0 c.requires
