use Rattle.syn_lex.proofs.OneCut.{one_cut}
use Rattle.syn_lex.proofs.lines.split_lines.Goals as goal

pub returns-clause-one : goal.returns-clause-one
returns-clause-one c = one_cut c.args.bytes.now
