use Rattle.syn_model.proofs.NumberLaws.{numbered_test}
use Rattle.syn_model.proofs.turns.are_numbered.Goals as goal

pub returns : goal.returns
returns c = numbered_test _ _ _ c.numbered_terms.ensures.number c.is_some.ensures
