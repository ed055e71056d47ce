-- What was put piece by piece is the text of the node that was matched.
use Rattle.std.proofs.Common.{◌<◌, length, sym, ◌∙◌, ap, List, ℕ, ◌++◌, string_bytes, arith}
use Rattle.std.proofs.lemmas.Bool.Decides.{nat_tests}
use Rattle.std.proofs.lemmas.Result.{IfOk-weaker}
use Rattle.syn_app.proofs.PrintedText.{variable_put, argument_put, application_put}
use Rattle.syn_app.proofs.printing.+print_term.Goals as goal

pub returns-in_ok-put-in-Var : goal.returns-in_ok-put-in-Var
returns-in_ok-put-in-Var t c = IfOk-weaker c.put_number-in-Var.result _ _ (λ x h. variable_put c.args.syms.now _ _ _ _ _ _ (sym c.get.ensures ∙ c.in-Var.is) c.in_ok-put-in-Var.ensures h) c.put_number-in-Var.ensures

pub loop-i-preserved : goal.loop-i-preserved
loop-i-preserved t c = argument_put c.args.syms.now _ _ _ _ _ _ _ _ _ c.loop-i-test.true c.index-args-i.is c.loop-i.invariant c.separator.ensures c.in_ok-put-in-App-3.ensures c.in_ok-print_term-in-App.ensures

pub returns-after-loop-i : goal.returns-after-loop-i
returns-after-loop-i t c =
    let some : 0 < length c.as_slice-args.result.now = grind (arith, nat_tests) in
    IfOk-weaker c.put-in-App-3.result _ _ (λ x h. application_put c.args.syms.now _ _ _ _ _ _ _ _ _ _ _ (sym c.get.ensures ∙ c.in-App.is) c.as_slice-args.ensures (sym c.in_default.ensures) some c.loop-i-test.false (c.in_ok-put-in-App.ensures ∙ ap (λ (z : List ℕ). string_bytes c.args.out.now ++ z) c.name_of.ensures) c.in_ok-put-in-App-2.ensures c.loop-i.invariant h) c.put-in-App-3.ensures
