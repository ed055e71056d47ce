use Rattle.std.proofs.Common.{◌<◌, ◌∙◌, length, arith}
use Rattle.std.proofs.lemmas.List.{length-map}
use Rattle.std.proofs.Common.{below_more}
use Rattle.syn_outside.specs.Memory.{seen}
use Rattle.syn_outside.proofs.Places.{absent, found, test_at}
use Rattle.syn_outside.proofs.memory_files.place_of.Goals as goal

pub returns : goal.returns
returns c = absent _ _ (λ k lt. c.loop-i.invariant k (omega (arith, length-map c.args.files.now seen)))

pub returns-then-eq : goal.returns-then-eq
returns-then-eq c =
    let lt : c.loop-i.i < length c.args.files.now = omega arith in
    found _ _ _ c.loop-i.invariant (omega (arith, length-map c.args.files.now seen))
    (test_at _ _ _ _ _ _ lt c.index-files-i.is c.as_str.ensures.value c.eq.ensures ∙ c.if-eq.true)

pub loop-i-preserved : goal.loop-i-preserved
loop-i-preserved c =
    let lt : c.loop-i.i < length c.args.files.now = omega arith in
    below_more _ _ c.loop-i.invariant
    (test_at _ _ _ _ _ _ lt c.index-files-i.is c.as_str.ensures.value c.eq.ensures ∙ c.if-eq.false)
