-- What was put piece by piece is the text of the formula that was matched.
use Rattle.std.proofs.Common.{◌+◌, ◌*◌, ◌<◌, map, sum, refl, ◌∙◌, arith}
use Rattle.std.proofs.lemmas.Result.{IfOk-weaker}
use Rattle.syn_form.specs.Simplification.{conjunction, disjunction}
use Rattle.syn_form.specs.Trees.{form_nodes}
use Rattle.syn_form.proofs.Fewer.{fewer_sides, no_more}
use Rattle.syn_form.proofs.OnTerms.{fewer_negated}
use Rattle.syn_form.proofs.ReplacingEnds.{fewer_members}
use Rattle.syn_expr.specs.inner.Places.{spoken_at}
use Rattle.syn_expr.proofs.Pieces.{item_put, whole_put, two_put, three_put}
use Rattle.syn_expr.proofs.FormTexts.{inner_text, and_text, or_text, implies_text}
use Rattle.syn_expr.proofs.print_forms.+forms.Goals as goal

pub put_form-returns-in-And : goal.put_form-returns-in-And
put_form-returns-in-And t c = IfOk-weaker c.put_chain.result _ _ (λ x h. whole_put _ _ _ _ (and_text (spoken_at c.args.place.now) c.args.f.now _ _ c.in-And.is (c.as_slice.ensures ∙ c.get-in-And.ensures)) h) c.put_chain.ensures

pub put_form-returns-in-Or : goal.put_form-returns-in-Or
put_form-returns-in-Or t c = IfOk-weaker c.put_chain-in-Or.result _ _ (λ x h. whole_put _ _ _ _ (or_text (spoken_at c.args.place.now) c.args.f.now _ _ c.in-Or.is (c.as_slice-in-Or.ensures ∙ c.get-in-Or.ensures)) h) c.put_chain-in-Or.ensures

pub put_form-returns-in-Implies : goal.put_form-returns-in-Implies
put_form-returns-in-Implies t c = IfOk-weaker c.put_implication.result _ _ (λ x h. whole_put _ _ _ _ (implies_text (spoken_at c.args.place.now) c.args.f.now _ _ _ _ c.in-Implies.is c.get-in-Implies.ensures c.get-in-Implies-2.ensures) h) c.put_implication.ensures

pub put_negation-returns : goal.put_negation-returns
put_negation-returns t c = IfOk-weaker c.put_inner.result _ _ (λ x h. two_put _ _ _ _ _ _ refl c.in_ok-put.ensures h) c.put_inner.ensures

pub put_implication-returns : goal.put_implication-returns
put_implication-returns t c = IfOk-weaker c.put_inner-2.result _ _ (λ x h. three_put _ _ _ _ _ _ _ _ refl c.in_ok-put_inner.ensures c.in_ok-put.ensures h) c.put_inner-2.ensures

pub put_form-put_negation-requires : goal.put_form-put_negation-requires
put_form-put_negation-requires t c =
    let fewer = fewer_negated _ _ _ c.in-Not.is c.get.ensures in
    let less : 4 * form_nodes c.get.result.now + 2 < t = omega arith in (less, tt)

pub put_form-put_chain-requires : goal.put_form-put_chain-requires
put_form-put_chain-requires t c =
    let fewer = fewer_members conjunction _ _ _ c.in-And.is (c.as_slice.ensures ∙ c.get-in-And.ensures) in
    let less : 4 * sum (map form_nodes c.as_slice.result.now) + 2 < t = omega arith in (less, tt)

pub put_form-put_chain-requires-in-Or : goal.put_form-put_chain-requires-in-Or
put_form-put_chain-requires-in-Or t c =
    let fewer = fewer_members disjunction _ _ _ c.in-Or.is (c.as_slice-in-Or.ensures ∙ c.get-in-Or.ensures) in
    let less : 4 * sum (map form_nodes c.as_slice-in-Or.result.now) + 2 < t = omega arith in (less, tt)

pub put_form-put_implication-requires : goal.put_form-put_implication-requires
put_form-put_implication-requires t c =
    let fewer = fewer_sides _ _ _ _ _ c.in-Implies.is c.get-in-Implies.ensures c.get-in-Implies-2.ensures in
    let less : 4 * (form_nodes c.get-in-Implies.result.now + form_nodes c.get-in-Implies-2.result.now) + 2 < t = omega arith in (less, tt)

pub put_chain-put_inner-requires : goal.put_chain-put_inner-requires
put_chain-put_inner-requires t c =
    let most = no_more _ _ _ _ c.loop-i-test.true c.index-all-i.is in
    let less : 4 * form_nodes c.index-all-i.result + 1 < t = omega arith in (less, tt)

pub put_chain-loop-i-preserved : goal.put_chain-loop-i-preserved
put_chain-loop-i-preserved t c = item_put (inner_text (spoken_at c.args.place.now)) c.args.between.now _ _ _ _ _ _ _ _ _ c.loop-i-test.true c.index-all-i.is c.loop-i.invariant c.separator.ensures c.in_ok-put.ensures c.in_ok-put_inner.ensures
