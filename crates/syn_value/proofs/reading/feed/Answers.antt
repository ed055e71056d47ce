use Rattle.std.proofs.Common.{◌≡◌, ◌-◌, ◌+◌, ◌≤◌, length, arith}
use Rattle.syn_value.proofs.Feeding.{fed_end, fed_err}
use Rattle.syn_value.proofs.reading.feed.Goals as goal

pub returns-in-Err : goal.returns-in-Err
returns-in-Err c =
    let next : c.loop-at.at ≡ (c.loop-at.at - 1) + 1 = omega (arith, c.loop-at-test.true) in
    let within : c.loop-at.at ≤ length c.args.bytes.now = omega (arith, c.loop-at.invariant.0, c.loop-at.invariant.1.0) in
    fed_err c.in-Err.error c.loop-at.reader c.step.new.reader c.args.bytes.now c.loop-at.at c.loop-at.end (c.loop-at.at - 1) next within c.loop-at.invariant.1.1 c.in-Err.ensures.state

pub returns : goal.returns
returns c = fed_end c.number.result c.loop-at.reader c.number.new.self c.args.bytes.now c.loop-at.at c.loop-at.end c.loop-at-test.false c.loop-at.invariant.1.1 c.number.ensures
