use Rattle.std.proofs.Common.{sym, ◌∙◌, true≢false}
use Rattle.syn_app.proofs.RowTexts.{no_row_parts, same_row}
use Rattle.syn_app.proofs.derivation_text.row_in.Goals as goal

pub returns-in-None : goal.returns-in-None
returns-in-None c = no_row_parts c.args.line.now c.args.input.now c.in-Some.text.now c.args.number c.requires c.in-Some.ensures c.in-None.ensures

pub returns-else-fits : goal.returns-else-fits
returns-else-fits c = λ r row e.
    let h = same_row c.args.line.now c.args.input.now c.in-Some.text.now c.args.number c.requires c.in-Some.ensures
    c.in-Some-row_after_number.row c.in-Some-row_after_number.ensures.0 c.in-Some-row_after_number.ensures.1 r row e in
    true≢false (sym (c.fits.ensures.1 (h.fits_form, h.fits_out, h.fits)) ∙ c.if-fits.false)
