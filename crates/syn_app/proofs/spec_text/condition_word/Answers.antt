use Rattle.std.proofs.Common.{List, ℕ, ◌++◌, ap, ◌∙◌}
use Rattle.syn_app.proofs.SpecTexts.{condition_rest}
use Rattle.syn_app.proofs.spec_text.condition_word.Goals as goal

pub returns-in-Some-strip : goal.returns-in-Some-strip
returns-in-Some-strip c =
    condition_rest c.args.line.now c.args.output.now c.in-Some.after_word.now c.in-Some-strip.after_output.now c.strip-in-Some-strip.result c.in-Some.ensures
    (c.in-Some-strip.ensures ∙ ap (λ (t : List ℕ). t ++ c.in-Some-strip.after_output.now) c.as_bytes.ensures.value) c.strip-in-Some-strip.ensures
