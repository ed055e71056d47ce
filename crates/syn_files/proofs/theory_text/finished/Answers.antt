use Rattle.std.proofs.Common.{◌≡◌, ◌+◌, List, [], ℕ, Some, true, true≢false, length, sym, ◌∙◌, ap, subst, arith}
use Rattle.syn_model.specs.Headings.{is_whole}
use Rattle.syn_model.specs.Theories.{TheoryTree}
use Rattle.std.proofs.lemmas.List.{length-map}
use Rattle.syn_files.proofs.LoopLaws.{end_none, end_short, end_whole}
use Rattle.syn_files.proofs.theory_text.finished.Goals as goal

pub returns-in-None : goal.returns-in-None
returns-in-None c = λ bytes cut led.
    let n : c.len.result ≡ length c.args.cut.now.lines.items = omega (arith, c.len.ensures) in
    end_none bytes _ _ cut c.args.progress.theory _ (ap (λ k. k + 1) (n ∙ sym (length-map c.args.cut.now.lines.items (λ line. line.now)))) led c.in-None.is

abbrev IsEnd : List ℕ → TheoryTree → Type 0
IsEnd rest t = (rest ≡ []) × (is_whole t.decls ≡ true)

pub returns-then-is_finished : goal.returns-then-is_finished
returns-then-is_finished c = λ bytes cut led.
    let n : c.len.result ≡ length c.args.cut.now.lines.items = omega (arith, c.len.ensures) in
    end_whole bytes _ _ cut c.args.progress.theory _ (ap (λ k. k + 1) (n ∙ sym (length-map c.args.cut.now.lines.items (λ line. line.now)))) led _ (c.in-Some.is ∙ ap Some (sym c.in-Some.theory-is)) (c.is_finished.ensures.0 c.if-is_finished.true)

pub returns-else-is_finished : goal.returns-else-is_finished
returns-else-is_finished c = λ bytes cut led.
    let n : c.len.result ≡ length c.args.cut.now.lines.items = omega (arith, c.len.ensures) in
    end_short bytes _ _ cut c.args.progress.theory _ (ap (λ k. k + 1) (n ∙ sym (length-map c.args.cut.now.lines.items (λ line. line.now)))) led c.in-Some.theory c.in-Some.is
    (λ both. true≢false (sym (c.is_finished.ensures.1 (subst (IsEnd c.args.cut.now.rest.now) (sym c.in-Some.theory-is) both)) ∙ c.if-is_finished.false))
