use Rattle.std.proofs.Common.{◌∙◌, sym, arith}
use Rattle.syn_term.proofs.Trees.{depth_more, depth_end}
use Rattle.syn_term.proofs.term.Shared+Node.+height.Goals as goal

pub loop-child-preserved : goal.loop-child-preserved
loop-child-preserved t c = depth_more _ _ _ _ _ _ _ _ c.loop-child-test.true c.child-item.is c.loop-child.invariant c.height.ensures c.max-deepest.ensures

pub returns-after-loop-child : goal.returns-after-loop-child
returns-after-loop-child t c = depth_end _ _ _ _ _ _ _ _ (sym c.get.ensures ∙ c.in-App.is) c.as_slice-child-items.ensures (omega arith) (omega arith) c.loop-child.invariant
