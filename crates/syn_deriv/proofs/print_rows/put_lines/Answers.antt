use Rattle.std.proofs.Common.{◌+◌, refl}
use Rattle.syn_deriv.proofs.PrintedPieces.{line_put}
use Rattle.syn_deriv.proofs.print_rows.put_lines.Goals as goal

pub loop-i-preserved : goal.loop-i-preserved
loop-i-preserved c = line_put c.args.syms.now c.args.rows.now c.loop-i.i (c.loop-i.i + 1) _ _ _ _ _ c.loop-i-test.true c.index-rows-i.is refl c.loop-i.invariant c.in_ok-put_line.ensures
