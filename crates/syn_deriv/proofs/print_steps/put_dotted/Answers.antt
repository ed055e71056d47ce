use Rattle.std.proofs.Common.{codes, decimal, refl}
use Rattle.syn_expr.proofs.Pieces.{item_put}
use Rattle.syn_deriv.proofs.print_steps.put_dotted.Goals as goal

pub loop-i-preserved : goal.loop-i-preserved
loop-i-preserved c = item_put decimal (codes ".") _ _ _ _ _ _ _ _ _ c.loop-i-test.true refl c.loop-i.invariant c.separator.ensures c.in_ok-put.ensures c.in_ok-put_number.ensures
