use Rattle.syn_model.proofs.Brings.{brings_order, brings_rel}
use Rattle.syn_model.proofs.bringing.bring.Goals as goal

pub returns-in-Rel-clause-added : goal.returns-in-Rel-clause-added
returns-in-Rel-clause-added c = brings_rel _ _ _ _ _ _ _ _ c.in-Rel.is c.as_str-in-Rel.ensures c.as_slice-in-Rel.ensures c.bring_rel.ensures.added

pub returns-in-Order-clause-added : goal.returns-in-Order-clause-added
returns-in-Order-clause-added c = brings_order _ _ _ _ _ _ _ _ _ c.in-Order.is c.as_str-in-Order.ensures c.as_slice-in-Order.ensures c.bring_order.ensures.added
