use Rattle.syn_app.proofs.RowTexts.{no_step_word, no_step_number}
use Rattle.syn_app.proofs.derivation_text.step_before.Goals as goal

pub returns-in_default-part_before : goal.returns-in_default-part_before
returns-in_default-part_before c =
    no_step_word c.args.text.now c.in-Some-strip.after_word.now c.in_default.ensures c.in-Some-strip.ensures c.in_default-part_before.ensures

pub returns-in-None : goal.returns-in-None
returns-in-None c =
    no_step_number c.args.text.now c.in-Some-strip.after_word.now c.in_default.ensures c.in-Some-strip.ensures
    c.in-Some-part_before.word.now c.in-Some-part_before.rest.now c.in-Some-part_before.ensures.0 c.in-Some-part_before.ensures.1 c.in-None.ensures
