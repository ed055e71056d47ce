use Rattle.std.proofs.Common.{refl}
use Rattle.syn_expr.proofs.accepting.sorted_qform.Goals as goal

pub returns-in-Ok-true : goal.returns-in-Ok-true
returns-in-Ok-true c = (refl, c.in-Ok-true.ensures.0 c.in-Ok-true.field-0-test)
