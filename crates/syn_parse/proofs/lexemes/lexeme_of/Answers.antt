use Rattle.syn_parse.proofs.TokenTexts.{no_text}
use Rattle.syn_parse.proofs.lexemes.lexeme_of.Goals as goal

pub returns-in-Err : goal.returns-in-Err
returns-in-Err c = no_text c.args.kind c.args.bytes.now c.requires c.in-Err.ensures.cases.0 c.in_default.ensures
