use Rattle.std.proofs.Common.{◌<◌, length, arith}
use Rattle.syn_unify.proofs.PairLists.{pairs_more}
use Rattle.syn_unify.proofs.pairs.put_pairs.Goals as goal

pub loop-i-preserved : goal.loop-i-preserved
loop-i-preserved c =
    let left : c.loop-i.i < length c.args.xs.now = omega arith in
    let right : c.loop-i.i < length c.args.ys.now = omega arith in
    pairs_more _ _ _ _ _ _ _ _ _ _ left right c.index-xs-i.is c.index-ys-i.is c.loop-i.invariant c.in_ok-put_pair.ensures
