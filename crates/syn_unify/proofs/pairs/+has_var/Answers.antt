use Rattle.std.proofs.Common.{◌<◌, ◌≤◌, ◌∙◌, length, refl, sym, arith}
use Rattle.syn_unify.proofs.PairLists.{found_in, not_more, not_whole}
use Rattle.syn_unify.proofs.pairs.+has_var.Goals as goal

pub returns-then-has_var : goal.returns-then-has_var
returns-then-has_var t c =
    let within : c.loop-child.child-index < length c.as_slice-child-items.result.now = omega arith in
    ((λ e. found_in c.args.x _ _ _ _ _ _ _ _ (sym c.get.ensures ∙ c.in-App.is) c.as_slice-child-items.ensures within c.child-item.is (c.has_var.ensures.0 c.if-has_var.true)), (λ k. refl))

pub loop-child-preserved : goal.loop-child-preserved
loop-child-preserved t c =
    let within : c.loop-child.child-index < length c.as_slice-child-items.result.now = omega arith in
    not_more c.args.x _ _ _ _ _ within c.child-item.is c.loop-child.invariant c.has_var.ensures.1 c.if-has_var.false

pub returns-after-loop-child : goal.returns-after-loop-child
returns-after-loop-child t c =
    let end : length c.as_slice-child-items.result.now ≤ c.loop-child.child-index = omega arith in
    ((λ e. absurd (cc)), (λ k. absurd (not_whole c.args.x _ _ _ _ _ _ (sym c.get.ensures ∙ c.in-App.is) c.as_slice-child-items.ensures end c.loop-child.invariant k)))
