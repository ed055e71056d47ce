use Rattle.std.proofs.lemmas.Result.{IfOk-weaker}
use Rattle.syn_parse.proofs.Parses.{term_answer, one_term_syntax}
use Rattle.syn_parse.proofs.parse.parse_term_words.Goals as goal

pub returns-clause-answer : goal.returns-clause-answer
returns-clause-answer c = IfOk-weaker c.term_syntax.result _ _ (term_answer c.args.words.now) c.term_syntax.ensures.gives

pub returns-clause-one : goal.returns-clause-one
returns-clause-one c = one_term_syntax c.args.words.now c.term_syntax.ensures.each
