use Rattle.syn_app.proofs.TermTexts.{no_term}
use Rattle.syn_app.proofs.terms.term_in.Goals as goal

pub returns-in-None : goal.returns-in-None
returns-in-None c =
    no_term c.args.word.now c.args.input.now c.unwrapped-successors.result.1.now c.unwrapped-successors.result.0 c.requires
    c.unwrapped-successors.ensures.is c.unwrapped-successors.ensures.most c.unwrapped-successors.ensures.bare c.in-None.ensures
