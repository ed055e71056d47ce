use Rattle.syn_form.proofs.Members.{tested_form}
use Rattle.syn_form.proofs.joins.is_same.Goals as goal

pub returns : goal.returns
returns c = tested_form _ _ _ c.same.ensures.same
