use Rattle.syn_app.proofs.RowTexts.{no_row_form, no_row_out}
use Rattle.syn_app.proofs.derivation_text.row_after_number.Goals as goal

pub returns-in_default-form_before : goal.returns-in_default-form_before
returns-in_default-form_before c =
    no_row_form c.args.input.now c.requires c.args.text.now c.in-Some.step c.in-Some.after_step.now c.in-Some.ensures.0 c.in-Some.ensures.1
    c.in_default-form_before.ensures

pub returns-in-None : goal.returns-in-None
returns-in-None c =
    no_row_out c.args.input.now c.requires c.args.text.now c.in-Some.step c.in-Some.after_step.now c.in-Some.ensures.0 c.in-Some.ensures.1
    c.in-Some-form_before.form c.in-Some-form_before.after_form.now c.in-Some-form_before.ensures.0 c.in-Some-form_before.ensures.1 c.in-None.ensures
