use Rattle.std.proofs.Common.{◌≡◌, ◌+◌, true≢false, length, sym, ◌∙◌, ap, arith}
use Rattle.std.proofs.lemmas.List.{length-map}
use Rattle.syn_deriv.proofs.DerivationSteps.{end_open, end_without}
use Rattle.syn_deriv.proofs.text.finished.Goals as goal

pub returns-in-None-clause-answer : goal.returns-in-None-clause-answer
returns-in-None-clause-answer c = λ x bytes cut led.
    let n : c.len.result ≡ length c.args.cut.now.lines.items = omega (arith, c.len.ensures) in
    end_without x bytes _ _ cut _ _ (ap (λ k. k + 1) (n ∙ sym (length-map c.args.cut.now.lines.items (λ line. line.now)))) led c.in-None.is

pub returns-else-is_ended-clause-answer : goal.returns-else-is_ended-clause-answer
returns-else-is_ended-clause-answer c = λ x bytes cut led.
    let n : c.len.result ≡ length c.args.cut.now.lines.items = omega (arith, c.len.ensures) in
    end_open x bytes _ _ cut _ _ (ap (λ k. k + 1) (n ∙ sym (length-map c.args.cut.now.lines.items (λ line. line.now)))) led
    (λ none. true≢false (sym (c.is_ended.ensures.1 none) ∙ c.if-is_ended.false))
