use Rattle.std.proofs.Common.{ap, ◌∙◌}
use Rattle.syn_model.specs.inner.Closing.{bound_vars}
use Rattle.syn_model.proofs.BoundVars.{bound_vars-Also}
use Rattle.syn_model.proofs.Free.{bound_outside}
use Rattle.syn_model.proofs.closed.+is_bound.Goals as goal

pub returns-else-are_one : goal.returns-else-are_one
returns-else-are_one t c = bound_outside _ _ _ _ _ _ (ap bound_vars c.in-Also.is ∙ bound_vars-Also _ _) c.are_one.ensures c.if-are_one.false c.is_bound.ensures
