use Rattle.syn_app.proofs.Accepted.{last_answer}
use Rattle.syn_app.proofs.check.last_output.Goals as goal

pub returns : goal.returns
returns c = last_answer _ _ _ _ c.in-Some.ensures.items c.solved_output.ensures
