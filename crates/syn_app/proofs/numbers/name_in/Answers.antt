use Rattle.syn_app.proofs.numbers.name_in.Goals as goal

pub returns-in-Err : goal.returns-in-Err
returns-in-Err c = λ named. c.in-Err.ensures.cases.0 named.text
