use Rattle.syn_model.proofs.Taken.{taken_by_symbol}
use Rattle.syn_model.proofs.naming.has_name.Goals as goal

pub returns-else-is_name : goal.returns-else-is_name
returns-else-is_name c = taken_by_symbol _ _ _ _ c.find.ensures.table (λ h. let e = c.is_name.ensures.1 h in let f = c.if-is_name.false in absurd (cc)) c.find.ensures.named c.is_some.ensures
