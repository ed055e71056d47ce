use Rattle.syn_lex.proofs.LineWords.{words_until}
use Rattle.syn_lex.proofs.line_words.Words.until.Goals as goal

pub returns : goal.returns
returns c = words_until c.self.inside.line.now c.self.inside.tokens.now c.args.self.now c.self.view_is _ c.args.n c.tokens_before.ensures
