use Rattle.std.proofs.Common.{◌≡◌, ◌+◌, true≢false, length, sym, ◌∙◌, ap, arith}
use Rattle.std.proofs.lemmas.List.{length-map}
use Rattle.syn_files.proofs.SpecLoop.{end_complete, end_early, end_unbegun}
use Rattle.syn_files.proofs.spec_text.finished.Goals as goal

pub returns-in-None-clause-answer : goal.returns-in-None-clause-answer
returns-in-None-clause-answer c = λ ds bytes cut led.
    let n : c.len.result ≡ length c.args.cut.now.lines.items = omega (arith, c.len.ensures) in
    end_unbegun ds bytes _ _ cut _ _ _ (ap (λ k. k + 1) (n ∙ sym (length-map c.args.cut.now.lines.items (λ line. line.now)))) led c.in-None.is

pub returns-then-is_finished-clause-answer : goal.returns-then-is_finished-clause-answer
returns-then-is_finished-clause-answer c = λ ds bytes cut led.
    let n : c.len.result ≡ length c.args.cut.now.lines.items = omega (arith, c.len.ensures) in
    end_complete ds bytes _ _ cut _ _ _ (ap (λ k. k + 1) (n ∙ sym (length-map c.args.cut.now.lines.items (λ line. line.now)))) led _ c.in-Some.is (c.is_finished.ensures.0 c.if-is_finished.true)

pub returns-else-is_finished-clause-answer : goal.returns-else-is_finished-clause-answer
returns-else-is_finished-clause-answer c = λ ds bytes cut led.
    let n : c.len.result ≡ length c.args.cut.now.lines.items = omega (arith, c.len.ensures) in
    end_early ds bytes _ _ cut _ _ _ (ap (λ k. k + 1) (n ∙ sym (length-map c.args.cut.now.lines.items (λ line. line.now)))) led c.in-Some.spec c.in-Some.is
    (λ both. true≢false (sym (c.is_finished.ensures.1 both) ∙ c.if-is_finished.false))
