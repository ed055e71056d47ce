use Rattle.syn_files.proofs.Printing.{named_more, small_more}
use Rattle.syn_files.proofs.naming.named_by.Goals as goal

pub loop-i-preserved : goal.loop-i-preserved
loop-i-preserved c = record {
  so_far = named_more c.args.mark c.args.vars.now c.loop-i.i _ _ _ _ c.loop-i-test.true c.loop-i.invariant.so_far c.in_ok-name.ensures.text c.in_ok-push_named.ensures;
  small = small_more c.args.mark c.args.vars.now c.loop-i.i _ c.loop-i-test.true c.loop-i.invariant.small c.in_ok-name.ensures.small;
}
