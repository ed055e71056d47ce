use Rattle.syn_expr.specs.Limits.{form_levels}
use Rattle.syn_expr.proofs.Deepest.{deeper_part}
use Rattle.syn_expr.proofs.Levels.{chain_capped}
use Rattle.syn_expr.proofs.limits.+levels.Goals as goal

pub forms_levels-loop-part-preserved : goal.forms_levels-loop-part-preserved
forms_levels-loop-part-preserved t c = deeper_part form_levels _ _ _ _ _ _ _ c.loop-part-test.true c.part-item.is c.loop-part.invariant c.form_levels.ensures c.greater-deepest.ensures

pub form_levels-returns-in-And : goal.form_levels-returns-in-And
form_levels-returns-in-And t c = chain_capped _ _ _ _ _ c.in-And.is c.as_slice-in-And.ensures c.forms_levels.ensures
