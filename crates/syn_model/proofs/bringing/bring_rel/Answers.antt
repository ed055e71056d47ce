use Rattle.syn_model.proofs.Brings.{added_as}
use Rattle.syn_model.proofs.bringing.bring_rel.Goals as goal

pub returns-clause-added : goal.returns-clause-added
returns-clause-added c = added_as _ _ _ _ _ c.in_ok-sym.ensures c.add_symbol.ensures.added
