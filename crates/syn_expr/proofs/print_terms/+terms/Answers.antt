use Rattle.std.proofs.Common.{sym, ◌∙◌}
use Rattle.std.proofs.lemmas.Result.{IfOk-weaker}
use Rattle.syn_expr.specs.inner.Places.{spoken_at}
use Rattle.syn_form.specs.Printing.{printed_term}
use Rattle.syn_expr.proofs.Pieces.{item_put}
use Rattle.syn_expr.proofs.TermTexts.{application_put}
use Rattle.syn_expr.proofs.OpenTerms.{one_only, open_none}
use Rattle.syn_expr.proofs.print_terms.+terms.Goals as goal

pub put_numberless-returns-in_ok-put-in-App : goal.put_numberless-returns-in_ok-put-in-App
put_numberless-returns-in_ok-put-in-App t c = IfOk-weaker c.put_args.result _ _ (λ x h. application_put (spoken_at c.args.place.now) _ _ _ _ _ _ _ _ _ (sym c.get.ensures ∙ c.in-App.is) c.as_slice.ensures c.requires.none c.symbol_name.ensures c.in_ok-put-in-App.ensures h) c.put_args.ensures

pub put_open-returns-in_default : goal.put_open-returns-in_default
put_open-returns-in_default t c = IfOk-weaker c.put_args.result _ _ (λ x h. application_put (spoken_at c.args.place.now) _ _ _ _ _ _ _ _ _ (sym c.get.ensures ∙ c.in-App.is) c.as_slice.ensures (open_none (spoken_at c.args.place.now) _ c.requires.open_end) c.symbol_name.ensures c.in_ok-put-in-App.ensures h) c.put_args.ensures

pub put_open-returns-in-Some-Succ-len1 : goal.put_open-returns-in-Some-Succ-len1
put_open-returns-in-Some-Succ-len1 t c = IfOk-weaker c.put_open_argument.result _ _ (λ x h. application_put (spoken_at c.args.place.now) _ _ _ _ _ _ _ _ _ (sym c.get.ensures ∙ c.in-App.is) (sym (one_only _ _ _ c.in-Some-Succ-len1.len_at_least c.in-Some-Succ-len1.len_below c.arg-item.is) ∙ c.as_slice.ensures) (open_none (spoken_at c.args.place.now) _ c.requires.open_end) c.symbol_name.ensures c.in_ok-put-in-App.ensures h) c.put_open_argument.ensures

pub put_args-loop-i-preserved : goal.put_args-loop-i-preserved
put_args-loop-i-preserved t c = item_put (printed_term (spoken_at c.args.place.now)) _ _ _ _ _ _ _ _ _ _ c.loop-i-test.true c.index-args-i.is c.loop-i.invariant c.separator.ensures c.in_ok-put-2.ensures c.in_ok-put_term.ensures
