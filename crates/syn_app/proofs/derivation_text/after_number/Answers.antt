use Rattle.std.proofs.Common.{List, ℕ, ◌++◌, ap, ◌∙◌}
use Rattle.syn_app.proofs.RowTexts.{number_rest}
use Rattle.syn_app.proofs.derivation_text.after_number.Goals as goal

pub returns-in-Some : goal.returns-in-Some
returns-in-Some c =
    number_rest c.args.line.now c.in-Some.rest.now c.args.number c.strip-in-Some.result
    (c.in-Some.ensures ∙ ap (λ (t : List ℕ). t ++ c.in-Some.rest.now) (c.as_bytes.ensures.value ∙ c.format.ensures.text)) c.strip-in-Some.ensures
