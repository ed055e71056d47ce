use Rattle.syn_term.proofs.NameLaws.{name_without}
use Rattle.syn_app.proofs.SpecTexts.{no_name}
use Rattle.syn_app.proofs.spec_text.name_before.Goals as goal

pub returns-in-None : goal.returns-in-None
returns-in-None c = λ name rest named. c.in-None.ensures name rest (name_without name c.args.mark named c.requires.ascii c.requires.mark)

pub returns-in-None-name_in : goal.returns-in-None-name_in
returns-in-None-name_in c =
    no_name c.args.mark c.requires.ascii c.requires.mark c.args.text.now c.in-Some.part.now c.in-Some.rest.now c.args.others.now
    c.in-Some.ensures.0 c.in-Some.ensures.1 c.in-None-name_in.ensures
