use Rattle.syn_form.proofs.Members.{tested_out}
use Rattle.syn_form.proofs.simplifying.is_same_out.Goals as goal

pub returns : goal.returns
returns c = tested_out _ _ _ c.same.ensures.same
