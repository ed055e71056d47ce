use Rattle.std.proofs.Common.{◌++◌, None, arith}
use Rattle.std.proofs.lemmas.Str.Pattern.{strip_prefix_char}
use Rattle.syn_parse.proofs.lexemes.row_lexeme.Goals as goal

pub returns-in-None : goal.returns-in-None
returns-in-None c =
    strip_prefix_char 63 c.args.text.now None c.in-None.ensures.cases (omega arith) (c.requires.number ++ c.requires.sort) c.requires.is
