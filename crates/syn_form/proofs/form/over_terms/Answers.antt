use Rattle.syn_term.specs.Terms.{depth_of}
use Rattle.syn_form.proofs.Depths.{deeper}
use Rattle.syn_form.proofs.form.over_terms.Goals as goal

pub loop-t-preserved : goal.loop-t-preserved
loop-t-preserved c = deeper depth_of _ _ _ _ _ _ _ _ c.loop-t-test.true c.t-item.is c.if-cap-eq0.false c.loop-t.invariant c.depth.ensures c.greater-deepest.ensures
