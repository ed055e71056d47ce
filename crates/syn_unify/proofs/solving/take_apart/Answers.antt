use Rattle.std.proofs.Common.{◌≡◌, false, refl, true}
use Rattle.syn_term.specs.Bank.{Extends-refl, Extends-trans}
use Rattle.syn_unify.proofs.Loops.{begins, binds_none, next_less, next_none, next_reached, rest_belong, taken_sorted}
use Rattle.syn_unify.proofs.solving.take_apart.Goals as goal

pub loop-pair-init : goal.loop-pair-init
loop-pair-init c = record {
  reached = begins _ _ _ c.requires.none c.requires.sorted;
  same = refl;
  extends = Extends-refl _;
  own = binds_none _ _ c.requires.none;
  left = c.requires.belongs;
}

pub step-requires-clause-sorted : goal.step-requires-clause-sorted
step-requires-clause-sorted c = taken_sorted _ _ _ _ _ _ _ c.in-Some.ensures c.loop-pair.invariant.reached

pub step-requires-clause-left : goal.step-requires-clause-left
step-requires-clause-left c = rest_belong _ _ _ _ c.in-Some.ensures c.loop-pair.invariant.left

pub returns-then-not-branch-clause-solved : goal.returns-then-not-branch-clause-solved
returns-then-not-branch-clause-solved c = let e : c.in_ok-step.field-0 ≡ false = cc in next_none _ _ _ _ _ _ _ c.in-Some.ensures c.loop-pair.invariant.reached _ _ _ c.in_ok-step.ensures.stepped e

pub loop-pair-smaller : goal.loop-pair-smaller
loop-pair-smaller c = let e : c.in_ok-step.field-0 ≡ true = cc in next_less _ _ _ _ _ _ _ c.in-Some.ensures c.loop-pair.invariant.reached _ _ _ c.in_ok-step.ensures.stepped e

pub loop-pair-preserved : goal.loop-pair-preserved
loop-pair-preserved c =
    let e : c.in_ok-step.field-0 ≡ true = cc in record {
      reached = next_reached _ _ _ _ _ _ _ c.in-Some.ensures c.loop-pair.invariant.reached _ _ _ c.in_ok-step.ensures.stepped e;
      same = refl;
      extends = Extends-trans _ _ _ c.loop-pair.invariant.extends c.step.ensures.extends;
      own = c.in_ok-step.ensures.own;
      left = c.in_ok-step.ensures.left e;
    }
