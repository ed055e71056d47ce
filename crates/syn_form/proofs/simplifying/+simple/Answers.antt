use Rattle.std.proofs.Common.{◌+◌, ◌*◌, ◌<◌, ◌∙◌, map, sum, arith}
use Rattle.syn_form.specs.Simplification.{conjunction, disjunction}
use Rattle.syn_form.specs.Trees.{form_nodes}
use Rattle.syn_form.proofs.Banks.{first_of, implied_bank, item_bank, members_bank, negation_bank, parts_bank, second_of, sides_bank}
use Rattle.syn_form.proofs.Fewer.{fewer_members, fewer_negated, fewer_sides, no_more}
use Rattle.syn_form.proofs.simplifying.+simple.Goals as goal

pub simple-simple_negation-requires : goal.simple-simple_negation-requires
simple-simple_negation-requires t c =
    let fewer = fewer_negated _ _ _ c.in-Not.is c.get.ensures in
    let less : 2 * form_nodes c.get.result.now + 1 < t = omega arith in
    (less, negation_bank _ _ _ c.in-Not.is c.get.ensures c.requires)

pub simple-simple_implication-requires : goal.simple-simple_implication-requires
simple-simple_implication-requires t c =
    let fewer = fewer_sides _ _ _ _ _ c.in-Implies.is c.get-in-Implies.ensures c.get-in-Implies-2.ensures in
    let less : 2 * (form_nodes c.get-in-Implies.result.now + form_nodes c.get-in-Implies-2.result.now) + 1 < t = omega arith in
    (less, sides_bank _ _ _ _ _ c.in-Implies.is c.get-in-Implies.ensures c.get-in-Implies-2.ensures c.requires)

pub simple-simple_chain-requires : goal.simple-simple_chain-requires
simple-simple_chain-requires t c =
    let same = c.as_slice.ensures ∙ c.get-in-And.ensures in
    let fewer = fewer_members conjunction _ _ _ c.in-And.is same in
    let less : 2 * sum (map form_nodes c.as_slice.result.now) + 1 < t = omega arith in
    (less, members_bank conjunction _ _ _ c.in-And.is same c.requires)

pub simple-simple_chain-requires-in-Or : goal.simple-simple_chain-requires-in-Or
simple-simple_chain-requires-in-Or t c =
    let same = c.as_slice-in-Or.ensures ∙ c.get-in-Or.ensures in
    let fewer = fewer_members disjunction _ _ _ c.in-Or.is same in
    let less : 2 * sum (map form_nodes c.as_slice-in-Or.result.now) + 1 < t = omega arith in
    (less, members_bank disjunction _ _ _ c.in-Or.is same c.requires)

pub simple_implication-simple-requires : goal.simple_implication-simple-requires
simple_implication-simple-requires t c = (omega arith, first_of _ _ c.requires)

pub simple_implication-simple-requires-2 : goal.simple_implication-simple-requires-2
simple_implication-simple-requires-2 t c = (omega arith, second_of _ _ c.requires)

pub simple_implication-implied-result-requires : goal.simple_implication-implied-result-requires
simple_implication-implied-result-requires t c = implied_bank _ _ _ _ c.in_ok-a.ensures c.in-Ok.ensures c.requires

pub simple_chain-simple-requires : goal.simple_chain-simple-requires
simple_chain-simple-requires t c =
    let most = no_more _ _ _ _ c.loop-part-test.true c.part-item.is in
    let less : 2 * form_nodes c.part-item.result < t = omega arith in
    (less, item_bank _ _ _ c.loop-part-test.true c.part-item.is c.requires)

pub simple_chain-joined-requires : goal.simple_chain-joined-requires
simple_chain-joined-requires t c = parts_bank _ _ _ (c.as_slice.ensures ∙ c.loop-part.invariant) c.requires
