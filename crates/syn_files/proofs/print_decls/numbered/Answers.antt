use Rattle.std.proofs.Common.{arith}
use Rattle.syn_files.proofs.Printing.{numbered_more}
use Rattle.syn_files.proofs.print_decls.numbered.Goals as goal

pub loop-i-preserved : goal.loop-i-preserved
loop-i-preserved c = record {
  so_far = numbered_more _ _ _ _ _ _ c.loop-i-test.true c.loop-i.invariant.so_far c.loop-i.invariant.next c.in_ok-push_var.ensures;
  next = omega (arith, c.in-Some.ensures.1, c.loop-i.invariant.next);
}
