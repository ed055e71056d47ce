use Rattle.syn_model.proofs.HeadingLaws.{two_clauses}
use Rattle.syn_model.proofs.headings.are_all.Goals as goal

pub returns-in_default : goal.returns-in_default
returns-in_default c = two_clauses c.args.syms.now c.args.clauses.now c.in_default.len_at_least c.requires
