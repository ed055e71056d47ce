use Rattle.syn_app.proofs.Parts.{no_part, no_rest}
use Rattle.syn_app.proofs.lines.part_before.Goals as goal

pub returns-in-None : goal.returns-in-None
returns-in-None c = no_part c.args.text.now c.args.others.now c.args.mark c.in-None.ensures

pub returns-in-None-strip : goal.returns-in-None-strip
returns-in-None-strip c =
    no_rest c.args.text.now c.in-Some.part.now c.in-Some.after.now c.args.others.now c.args.mark c.in-Some.ensures.0 c.in-Some.ensures.1 c.in-None-strip.ensures
