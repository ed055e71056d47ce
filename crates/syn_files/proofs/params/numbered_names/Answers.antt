use Rattle.std.proofs.Common.{arith}
use Rattle.syn_files.proofs.OrderLaws.{names_more}
use Rattle.syn_files.proofs.params.numbered_names.Goals as goal

pub loop-i-preserved : goal.loop-i-preserved
loop-i-preserved c = record {
  so_far = names_more c.args.params.now c.loop-i.i c.loop-i.number c.index-params-i.result _ _ c.loop-i-test.true c.index-params-i.is c.loop-i.invariant.so_far c.loop-i.invariant.next c.in_ok-push_numbered.ensures;
  next = omega (arith, c.in-Some.ensures.1, c.loop-i.invariant.next);
}
