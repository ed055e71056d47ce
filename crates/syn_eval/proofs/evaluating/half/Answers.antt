use Rattle.syn_eval.proofs.Measures.{half_is}
use Rattle.syn_eval.proofs.evaluating.half.Goals as goal

pub returns-clause-half : goal.returns-clause-half
returns-clause-half c = half_is c.args.n
