use Rattle.std.proofs.Common.{sym}
use Rattle.syn_lex.specs.Lexing.{word}
use Rattle.syn_parse.proofs.TokenLists.{lexeme_there}
use Rattle.syn_parse.proofs.words_reader.lexeme_at.Goals as goal

pub returns-in-Some : goal.returns-in-Some
returns-in-Some c = lexeme_there c.args.words.now c.args.k (word c.in-Some.kind c.in-Some.bytes.now) (sym c.in-Some.ensures.is) c.lexeme_of.result c.lexeme_of.ensures
