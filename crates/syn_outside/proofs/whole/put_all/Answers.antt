use Rattle.std.proofs.Common.{◌≡◌, ◌-◌, ◌<◌, ◌∙◌, length, take, drop, ap, arith, length-drop}
use Rattle.std.proofs.lemmas.List.{take_rest}
use Rattle.syn_outside.proofs.Turns.{adds_more}
use Rattle.syn_outside.proofs.whole.put_all.Goals as goal

pub loop-done-preserved : goal.loop-done-preserved
loop-done-preserved g c =
    let left : length (take (length c.args.bytes.now - c.loop-done.done) (drop c.loop-done.done c.args.bytes.now)) ≡ length c.args.bytes.now - c.loop-done.done =
    ap length (take_rest c.args.bytes.now c.loop-done.done) ∙ length-drop c.loop-done.done c.args.bytes.now in
    let some : 0 < c.in-Ok.count = c.in-Ok.ensures.text.some (omega arith) in
    record {
      within = omega (arith, c.in-Ok.ensures.text.within);
      adds = adds_more _ _ _ _ _ _ c.loop-done.invariant.adds c.in-Ok.ensures.text.adds;
      later = omega arith;
      quiet = c.in-Ok.ensures.quiet ∙ c.loop-done.invariant.quiet;
      same = λ none. absurd (omega arith);
    }
