use Rattle.std.proofs.lemmas.Result.{IfOk-weaker}
use Rattle.syn_parse.proofs.Parses.{form_answer, one_form_syntax}
use Rattle.syn_parse.proofs.parse.parse_form_words.Goals as goal

pub returns-clause-answer : goal.returns-clause-answer
returns-clause-answer c = IfOk-weaker c.form_syntax.result _ _ (form_answer c.args.words.now) c.form_syntax.ensures.gives

pub returns-clause-one : goal.returns-clause-one
returns-clause-one c = one_form_syntax c.args.words.now c.form_syntax.ensures.each
