use Rattle.std.proofs.Common.{◌≡◌}
use Rattle.syn_expr.proofs.OutMaking.{choice_made, no_choice}
use Rattle.syn_expr.proofs.elaborate_out.choice.Goals as goal

pub returns-in-Ok-new-clause-tree : goal.returns-in-Ok-new-clause-tree
returns-in-Ok-new-clause-tree c =
    let kept = c.in-Ok.ensures in
    let one = kept.0 in
    let other = kept.1 in
    let first : c.in-Ok.u ≡ c.args.u = cc in
    let second : c.in-Ok.v ≡ c.args.v = cc in
    choice_made c.args.syms.now c.args.f c.args.u c.args.v _ _ _ c.are_of_one_sort.ensures c.given_sort.ensures c.given_sort-2.ensures
    _ _ _ c.if-not-are_of_one_sort.false c.in-Ok-new.ensures first second

pub returns-then-not-are_of_one_sort-clause-tree : goal.returns-then-not-are_of_one_sort-clause-tree
returns-then-not-are_of_one_sort-clause-tree c =
    no_choice c.args.syms.now c.args.f c.args.u c.args.v _ _ _ c.are_of_one_sort.ensures c.given_sort.ensures c.given_sort-2.ensures c.if-not-are_of_one_sort.true
