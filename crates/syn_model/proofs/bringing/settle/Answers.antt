use Rattle.std.proofs.Common.{refl, sym, ◌∙◌}
use Rattle.std.proofs.lemmas.Result.{IfOk-weaker}
use Rattle.syn_model.proofs.Keeping.{settled_by_index, settled_by_table}
use Rattle.syn_model.proofs.bringing.settle.Goals as goal

pub returns-then-is_indexed-clause-settled : goal.returns-then-is_indexed-clause-settled
returns-then-is_indexed-clause-settled c = settled_by_index _ _ _ _ _ (sym c.is_indexed.ensures ∙ c.if-is_indexed.true) refl c.in_ok-enter.ensures.ok

pub returns-clause-settled : goal.returns-clause-settled
returns-clause-settled c = IfOk-weaker c.bring.result _ _ (λ b t. settled_by_table _ _ _ _ _ b (sym c.is_indexed.ensures ∙ c.if-is_indexed.false) refl t) c.bring.ensures.added
