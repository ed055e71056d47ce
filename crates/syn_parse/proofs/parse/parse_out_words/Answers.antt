use Rattle.std.proofs.lemmas.Result.{IfOk-weaker}
use Rattle.syn_parse.proofs.Parses.{out_answer, one_out_syntax}
use Rattle.syn_parse.proofs.parse.parse_out_words.Goals as goal

pub returns-clause-answer : goal.returns-clause-answer
returns-clause-answer c = IfOk-weaker c.out_syntax.result _ _ (out_answer c.args.words.now) c.out_syntax.ensures.gives

pub returns-clause-one : goal.returns-clause-one
returns-clause-one c = one_out_syntax c.args.words.now c.out_syntax.ensures.each
