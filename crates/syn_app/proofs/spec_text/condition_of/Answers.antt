use Rattle.std.proofs.Common.{sym, ◌∙◌, true≢false}
use Rattle.syn_app.proofs.SpecTexts.{no_condition, same_condition}
use Rattle.syn_app.proofs.spec_text.condition_of.Goals as goal
use Rattle.syn_app.proofs.spec_text.condition_of.Goals.{else-is_closed-via-then-is_closed+else-fits, else-is_closed-via-else-is_closed}

pub returns-in-None : goal.returns-in-None
returns-in-None c =
    no_condition c.args.line.now c.in-Some.word.now
    (record { program = c.args.header.now.program.now; input = c.args.header.now.input.now; output = c.args.header.now.output.now })
    c.requires c.in-Some.ensures c.in-None.ensures

pub returns-else-is_closed : goal.returns-else-is_closed
returns-else-is_closed c = λ r ok e.
    let h = same_condition c.args.line.now c.in-Some.word.now
    (record { program = c.args.header.now.program.now; input = c.args.header.now.input.now; output = c.args.header.now.output.now })
    c.requires c.in-Some.ensures c.in-Some-term_in.term c.in-Some-term_in.ensures.0 c.in-Some-term_in.ensures.1 r ok e in
    elim c.else-is_closed.branch [
      | else-is_closed-via-then-is_closed+else-fits w ↦ true≢false (sym (w.fits.ensures.1 h.fits) ∙ w.if-fits.false)
      | else-is_closed-via-else-is_closed w ↦ true≢false (sym (c.is_closed.ensures.1 h.closed) ∙ w.if-is_closed.false)
    ]
