use Rattle.std.proofs.Common.{codes}
use Rattle.syn_expr.proofs.Pieces.{item_put}
use Rattle.syn_deriv.specs.PrintedDerivation.{position_text}
use Rattle.syn_deriv.proofs.PrintedPieces.{position_put}
use Rattle.syn_deriv.proofs.print_steps.put_positions.Goals as goal

pub loop-i-preserved : goal.loop-i-preserved
loop-i-preserved c = item_put position_text (codes ",") _ _ _ _ _ _ _ _ _ c.loop-i-test.true c.index-positions-i.is c.loop-i.invariant c.separator.ensures c.in_ok-put.ensures (position_put _ _ _ _ c.as_slice.ensures c.in_ok-put_steps.ensures)
