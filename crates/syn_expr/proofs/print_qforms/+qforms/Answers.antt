-- What was put piece by piece is the text of the formula that was matched.
use Rattle.std.proofs.Common.{◌+◌, ◌*◌, ◌<◌, ◌++◌, ◌∙◌, ap, arith, codes, refl, sym}
use Rattle.std.proofs.lemmas.Result.{IfOk-weaker}
use Rattle.syn_form.specs.Quantified.{qform_nodes}
use Rattle.syn_form.specs.Trees.{QFormTree}
use Rattle.syn_expr.specs.inner.Places.{spoken_at}
use Rattle.syn_expr.proofs.Pieces.{item_put, three_put, two_put, whole_put}
use Rattle.syn_expr.proofs.QFormTexts.{chain_text, inner_qtext, inside_are, sides_text, and_text, or_text, implies_text, all_text, some_text}
use Rattle.syn_expr.proofs.QFormSizes.{no_more}
use Rattle.syn_expr.proofs.print_qforms.+qforms.Goals as goal

pub put_qform-returns-in-And : goal.put_qform-returns-in-And
put_qform-returns-in-And t c = IfOk-weaker c.put_members.result _ _ (λ x h. whole_put _ _ _ _ (and_text (spoken_at c.args.place.now) c.args.f.now _ _ c.in-And.is refl) h) c.put_members.ensures

pub put_qform-returns-in-Or : goal.put_qform-returns-in-Or
put_qform-returns-in-Or t c = IfOk-weaker c.put_members-in-Or.result _ _ (λ x h. whole_put _ _ _ _ (or_text (spoken_at c.args.place.now) c.args.f.now _ _ c.in-Or.is refl) h) c.put_members-in-Or.ensures

pub put_qform-returns-in-Implies : goal.put_qform-returns-in-Implies
put_qform-returns-in-Implies t c = IfOk-weaker c.put_implication.result _ _ (λ x h. whole_put _ _ _ _ (implies_text (spoken_at c.args.place.now) c.args.f.now _ _ _ _ c.in-Implies.is refl refl) h) c.put_implication.ensures

pub put_negation-returns : goal.put_negation-returns
put_negation-returns t c = IfOk-weaker c.put_inner_qform.result _ _ (λ x h. two_put _ _ _ _ _ _ (ap (λ (z : QFormTree). codes "not " ++ inner_qtext (spoken_at c.args.place.now) z) (sym c.get.ensures)) c.in_ok-put.ensures h) c.put_inner_qform.ensures

pub put_implication-returns : goal.put_implication-returns
put_implication-returns t c = IfOk-weaker c.put_inner_qform-2.result _ _ (λ x h. three_put _ _ _ _ _ _ _ _ (sides_text (spoken_at c.args.place.now) _ _ _ _ c.get.ensures c.get-2.ensures) c.in_ok-put_inner_qform.ensures c.in_ok-put.ensures h) c.put_inner_qform-2.ensures

pub put_qform-returns-in-All : goal.put_qform-returns-in-All
put_qform-returns-in-All t c = IfOk-weaker c.put_quantified.result _ _ (λ x h. whole_put _ _ _ _ (all_text (spoken_at c.args.place.now) c.args.f.now _ _ _ _ c.in-All.is refl refl) h) c.put_quantified.ensures

pub put_qform-returns-in-Exists : goal.put_qform-returns-in-Exists
put_qform-returns-in-Exists t c = IfOk-weaker c.put_quantified-in-Exists.result _ _ (λ x h. whole_put _ _ _ _ (some_text (spoken_at c.args.place.now) c.args.f.now _ _ _ _ c.in-Exists.is refl refl) h) c.put_quantified-in-Exists.ensures

pub put_quantified-returns : goal.put_quantified-returns
put_quantified-returns t c = IfOk-weaker c.put_inner_qform.result _ _ (λ x h. two_put _ _ _ _ _ _ (inside_are (spoken_at c.args.place.now) c.args.word.now c.args.b.now _ _ _ c.get.ensures c.within.ensures) c.in_ok-put_binder.ensures h) c.put_inner_qform.ensures

pub put_members-returns : goal.put_members-returns
put_members-returns t c = IfOk-weaker c.put_qform_chain.result _ _ (λ x h. whole_put _ _ _ _ (ap (chain_text (spoken_at c.args.place.now) c.args.between.now) (sym (c.as_slice.ensures ∙ c.get.ensures))) h) c.put_qform_chain.ensures

pub put_qform_chain-loop-i-preserved : goal.put_qform_chain-loop-i-preserved
put_qform_chain-loop-i-preserved t c = item_put (inner_qtext (spoken_at c.args.place.now)) c.args.between.now _ _ _ _ _ _ _ _ _ c.loop-i-test.true c.index-all-i.is c.loop-i.invariant c.separator.ensures c.in_ok-put.ensures c.in_ok-put_inner_qform.ensures

pub put_qform_chain-put_inner_qform-requires : goal.put_qform_chain-put_inner_qform-requires
put_qform_chain-put_inner_qform-requires t c =
    let most = no_more _ _ _ _ c.loop-i-test.true c.index-all-i.is in
    let less : 4 * qform_nodes c.index-all-i.result + 1 < t = omega arith in (less, tt)
