use Rattle.syn_app.proofs.RowTexts.{no_right}
use Rattle.syn_app.proofs.derivation_text.form_before.Goals as goal

pub returns-in-None : goal.returns-in-None
returns-in-None c =
    no_right c.args.input.now c.requires c.args.text.now c.in_default.ensures
    c.in-Some-term_before.left c.in-Some-term_before.after_left.now c.in-Some-term_before.ensures.0 c.in-Some-term_before.ensures.1 c.in-None.ensures
