use Rattle.std.proofs.Common.{◌+◌, ◌*◌, ◌<◌, ◌∙◌, length, map, sum, ◌≡◌, None, Some, refl, sym, ap, arith}
use Rattle.std.proofs.lemmas.Result.{IfOk-weaker}
use Rattle.syn_term.specs.Bank.{Extends-trans}
use Rattle.syn_term.specs.Terms.{bare, nodes}
use Rattle.syn_form.specs.Inputs.{with_inputs}
use Rattle.syn_form.specs.Plain.{IsSorted}
use Rattle.syn_form.proofs.InputTerms.{applies_still, fewer_args, inputs_still, listed_belongs, refused}
use Rattle.syn_form.proofs.MadeTerms.{belongs_more, count_more, count_within, item_of, made_more, no_more_than_all}
use Rattle.syn_form.proofs.SortedTerms.{application_sorted}
use Rattle.syn_form.proofs.inputs.+terms.Goals as goal

pub put_in_term-put_in_terms-requires : goal.put_in_term-put_in_terms-requires
put_in_term-put_in_terms-requires t c =
    let is = sym c.get.ensures ∙ c.in-App.is in
    let fewer = fewer_args _ _ _ _ _ is c.as_slice.ensures in
    let less : 2 * sum (map nodes c.as_slice.result.now) + 1 < t = omega arith in
    (less, (c.requires.inputs, ((((application_sorted _ _ _ _ _ _ _ is refl c.as_slice.ensures).0 c.requires.sorted).1), c.requires.own)))

pub put_in_term-unreachable-requires : goal.put_in_term-unreachable-requires
put_in_term-unreachable-requires t c =
    let is = sym c.get.ensures ∙ c.in-App.is in
    let none : c.in-Ok-None.field-0 ≡ None = cc in
    refused _ _ _ none c.in-Ok-None.ensures.tree
    (applies_still _ _ c.requires.inputs _ _ _ _ _ _ is c.as_slice.ensures c.requires.sorted (ap (map bare) c.as_slice-in-None.ensures ∙ c.in_ok-parts-in-None.ensures.tree))

pub put_in_term-returns-in-Some-clause-belongs : goal.put_in_term-returns-in-Some-clause-belongs
put_in_term-returns-in-Some-clause-belongs t c = IfOk-weaker c.term_again.result _ _ (λ u e. listed_belongs _ _ _ _ (sym c.in-Some.ensures ∙ ap Some (sym e)) c.requires.own) c.term_again.ensures

pub put_in_terms-put_in_term-requires : goal.put_in_terms-put_in_term-requires
put_in_terms-put_in_term-requires t c =
    let within : c.loop-t.t-index < length c.args.ts.now = omega arith in
    let most = no_more_than_all nodes _ _ _ _ within c.t-item.is in
    let less : 2 * nodes c.t-item.result < t = omega arith in
    (less, (c.requires.inputs, (item_of (IsSorted c.args.syms.now) _ _ _ _ within c.t-item.is c.requires.sorted, inputs_still _ _ _ c.loop-t.invariant.extends c.requires.own)))

pub put_in_terms-returns-in_err-put_in_term-clause-made : goal.put_in_terms-returns-in_err-put_in_term-clause-made
put_in_terms-returns-in_err-put_in_term-clause-made t c =
    count_within nodes _ _ _ _ _ _ _ c.loop-t-test.true c.t-item.is c.loop-t.invariant.made c.put_in_term.ensures.made

pub put_in_terms-returns-in_err-push-clause-made : goal.put_in_terms-returns-in_err-push-clause-made
put_in_terms-returns-in_err-push-clause-made t c =
    count_within nodes _ _ _ _ _ _ _ c.loop-t-test.true c.t-item.is c.loop-t.invariant.made c.put_in_term.ensures.made

pub put_in_terms-loop-t-preserved : goal.put_in_terms-loop-t-preserved
put_in_terms-loop-t-preserved t c = record {
  tree = made_more bare (with_inputs c.args.inputs.now) _ _ _ _ _ _ _ c.loop-t-test.true c.t-item.is c.loop-t.invariant.tree c.in_ok-put_in_term.ensures.tree c.in_ok-push.ensures.ok;
  made = count_more nodes _ _ _ _ _ _ _ c.loop-t-test.true c.t-item.is c.loop-t.invariant.made c.put_in_term.ensures.made;
  extends = Extends-trans _ _ _ c.loop-t.invariant.extends c.put_in_term.ensures.extends;
  belongs = belongs_more _ _ _ _ _ c.put_in_term.ensures.extends c.loop-t.invariant.belongs c.in_ok-put_in_term.ensures.belongs c.in_ok-push.ensures.ok;
}
