use Rattle.syn_app.proofs.RowTexts.{no_term_before, no_term_word}
use Rattle.syn_app.proofs.derivation_text.term_before.Goals as goal

pub returns-in-None : goal.returns-in-None
returns-in-None c = no_term_before c.args.text.now c.args.others.now c.args.input.now c.requires c.in-None.ensures

pub returns-in-None-term_in : goal.returns-in-None-term_in
returns-in-None-term_in c =
    no_term_word c.args.text.now c.args.others.now c.args.input.now c.requires c.in-Some.word.now c.in-Some.rest.now
    c.in-Some.ensures.0 c.in-Some.ensures.1 c.in-None-term_in.ensures
