use Rattle.std.proofs.Common.{◌∙◌}
use Rattle.syn_form.specs.Trees.{form_depth}
use Rattle.syn_form.proofs.Chains.{chain_depth}
use Rattle.syn_form.proofs.Depths.{deeper, deepest_of}
use Rattle.syn_form.proofs.trees.Form.+depth.Goals as goal

pub loop-part-preserved : goal.loop-part-preserved
loop-part-preserved t c = deeper form_depth _ _ _ _ _ _ _ _ c.loop-part-test.true c.part-item.is c.if-cap-eq0-4.false c.loop-part.invariant c.depth-in-loop-part.ensures c.greater-deepest.ensures

pub returns-after-loop-part : goal.returns-after-loop-part
returns-after-loop-part t c = deepest_of form_depth _ _ _ _ _ _ (c.as_slice-part-items.ensures ∙ c.get-in-And.ensures) c.loop-part-test.false (chain_depth _ _ c.in-And.is) c.loop-part.invariant
