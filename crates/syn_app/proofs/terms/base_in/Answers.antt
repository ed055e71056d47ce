use Rattle.std.proofs.Common.{sym, ◌∙◌, true≢false}
use Rattle.syn_app.proofs.TermTexts.{no_row}
use Rattle.syn_app.proofs.terms.base_in.Goals as goal

pub returns-in-None-number_between : goal.returns-in-None-number_between
returns-in-None-number_between c =
    no_row c.args.text.now c.args.input.now c.in-Some.digits.now
    (λ e. true≢false (sym (c.same.ensures.1 (e ∙ sym c.as_bytes.ensures.value)) ∙ c.if-same.false)) c.in-Some.ensures c.in-None-number_between.ensures
