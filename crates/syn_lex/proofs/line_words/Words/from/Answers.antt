use Rattle.syn_lex.proofs.LineWords.{words_from}
use Rattle.syn_lex.proofs.line_words.Words.from.Goals as goal

pub returns : goal.returns
returns c = words_from c.self.inside.line.now c.self.inside.tokens.now c.args.self.now c.self.view_is _ c.args.n c.tokens_after.ensures
