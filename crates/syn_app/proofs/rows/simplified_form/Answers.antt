use Rattle.syn_app.proofs.Simplified.{simplified-same, simplified-other}
use Rattle.syn_app.proofs.rows.simplified_form.Goals as goal

pub returns-then-same : goal.returns-then-same
returns-then-same c = simplified-same _ _ _ c.in-Equal.is (c.same.ensures.tree.0 c.if-same.true)

pub returns-else-same : goal.returns-else-same
returns-else-same c = simplified-other _ _ _ c.in-Equal.is (λ e. let h = c.same.ensures.tree.1 e in cc)
