use Rattle.std.proofs.Common.{ap, option_copied}
use Rattle.syn_lex.proofs.LineWords.{tokens_all, word_there}
use Rattle.syn_lex.proofs.line_words.Words.get.Goals as goal

pub returns-in-None-clause-each : goal.returns-in-None-clause-each
returns-in-None-clause-each c = tokens_all c.self.inside.line.now c.self.inside.tokens.now c.args.self.now c.self.view_is c.self.invariant

pub returns-in-Some-clause-is : goal.returns-in-Some-clause-is
returns-in-Some-clause-is c =
    word_there c.self.inside.line.now c.self.inside.tokens.now c.args.self.now c.self.view_is c.args.k (option_copied c.token_at.result) c.in-Some.token.now _
    c.token_at.ensures (ap option_copied c.in-Some.is) c.bytes_in.ensures

pub returns-in-Some-clause-each : goal.returns-in-Some-clause-each
returns-in-Some-clause-each c = tokens_all c.self.inside.line.now c.self.inside.tokens.now c.args.self.now c.self.view_is c.self.invariant
