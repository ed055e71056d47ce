use Rattle.std.proofs.Common.{◌<◌, true, arith}
use Rattle.syn_form.specs.Trees.{out_nodes}
use Rattle.syn_form.proofs.Fewer.{fewer_first, fewer_second}
use Rattle.syn_form.proofs.Owned.{agree_given, bank_tests, bank_firsts, bank_seconds}
use Rattle.syn_form.proofs.Sameness.{choices_same, choices_differ}
use Rattle.syn_form.proofs.trees.Out.+is_one.Goals as goal

pub same-requires : goal.same-requires
same-requires t c = agree_given _ _ c.requires _ _ c.in-Give-Give.is-0 c.in-Give-Give.is-1

pub same-requires-in-If-If : goal.same-requires-in-If-If
same-requires-in-If-If t c = bank_tests _ _ c.requires _ _ _ _ _ _ c.in-If-If.is-0 c.in-If-If.is-1 _ _ c.get.ensures c.get-in-If-If.ensures

pub is_one-requires : goal.is_one-requires
is_one-requires t c =
    let fewer = fewer_first _ _ _ _ _ c.in-If-If.is-0 c.get-in-If-If-2.ensures in
    let less : out_nodes c.get-in-If-If-2.result.now < t = omega arith in
    (less, bank_firsts _ _ c.requires _ _ _ _ _ _ c.in-If-If.is-0 c.in-If-If.is-1 _ _ c.get-in-If-If-2.ensures c.get-in-If-If-3.ensures)

pub returns-then-not-is_one : goal.returns-then-not-is_one
returns-then-not-is_one t c = (
  (λ e. absurd (cc)),
  (λ e. absurd (choices_differ _ _ true _ _ _ _ _ _ _ _ _ _ c.in-If-If.is-0 c.in-If-If.is-1 c.get.ensures c.get-in-If-If.ensures c.get-in-If-If-2.ensures c.get-in-If-If-3.ensures (λ k. let h = c.is_one.ensures.1 k in cc) e)),
)

pub is_one-requires-in-If-If : goal.is_one-requires-in-If-If
is_one-requires-in-If-If t c =
    let fewer = fewer_second _ _ _ _ _ c.in-If-If.is-0 c.get-in-If-If-4.ensures in
    let less : out_nodes c.get-in-If-If-4.result.now < t = omega arith in
    (less, bank_seconds _ _ c.requires _ _ _ _ _ _ c.in-If-If.is-0 c.in-If-If.is-1 _ _ c.get-in-If-If-4.ensures c.get-in-If-If-5.ensures)

pub returns-else-not-is_one : goal.returns-else-not-is_one
returns-else-not-is_one t c =
    choices_same _ _ _ _ _ _ _ _ _ _ _ _ _ c.in-If-If.is-0 c.in-If-If.is-1 c.get.ensures c.get-in-If-If.ensures c.get-in-If-If-2.ensures c.get-in-If-If-3.ensures
    _ _ c.get-in-If-If-4.ensures c.get-in-If-If-5.ensures (c.same-in-If-If.ensures.same.0 c.if-not-same.false) (c.is_one.ensures.0 c.if-not-is_one.false) c.is_one-in-If-If.ensures
