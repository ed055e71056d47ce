use Rattle.syn_term.proofs.ReservedLaws.{reserved_test}
use Rattle.syn_lex.proofs.lengths.is_reserved.Goals as goal

pub returns : goal.returns
returns c = reserved_test c.is_reserved.result c.args.word.now c.is_reserved.ensures.0 c.is_reserved.ensures.1
