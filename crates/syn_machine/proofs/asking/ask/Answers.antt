use Rattle.std.proofs.Common.{◌-◌, map, ap, arith}
use Rattle.std.specs.Option.{option_copied}
use Rattle.syn_eval.specs.inner.Rules.{entry_seen, rule_seen}
use Rattle.syn_eval.proofs.EntryAnswers.{known_fact, known_measure, known_relations}
use Rattle.syn_machine.proofs.Made.{order_does, relation_does}
use Rattle.syn_machine.proofs.asking.ask.Goals as goal

pub ask_relation-requires-clause-light : goal.ask_relation-requires-clause-light
ask_relation-requires-clause-light c = known_relations c.args.set.now c.args.r (entry_seen c.in-Some.entry.now) (known_fact _ _ _ _ c.in-Some.is c.entry.ensures) _ (ap (map rule_seen) c.as_slice.ensures)

pub returns-in-Rel-clause-does : goal.returns-in-Rel-clause-does
returns-in-Rel-clause-does c =
    relation_does c.args.work.now c.ask_relation.new.work c.args.set.now c.args.left c.args.r c.args.count _ (omega arith) (ap (λ z. z - c.args.count) c.len-len.ensures) (entry_seen c.in-Some.entry.now) (known_fact _ _ _ _ c.in-Some.is c.entry.ensures) c.ask_relation.result
    c.in-Rel.is _ (ap (map rule_seen) c.as_slice.ensures) c.ask_relation.ensures.does

pub returns-in-Some-measure-clause-does : goal.returns-in-Some-measure-clause-does
returns-in-Some-measure-clause-does c =
    order_does c.args.work.now c.ask_order.new.work c.args.set.now c.args.left c.args.r c.args.count _ (omega arith) (ap (λ z. z - c.args.count) c.len-len.ensures) (entry_seen c.in-Some.entry.now) (known_fact _ _ _ _ c.in-Some.is c.entry.ensures) c.ask_order.result
    c.in-Order.is _ (ap option_copied c.in-Some-measure.is) (c.ask_order.ensures.does c.args.set.now)

pub returns-in-Some-measure-clause-lighter : goal.returns-in-Some-measure-clause-lighter
returns-in-Some-measure-clause-lighter c =
    c.ask_order.ensures.lighter c.args.set.now (known_measure c.args.set.now c.args.r (entry_seen c.in-Some.entry.now) (known_fact _ _ _ _ c.in-Some.is c.entry.ensures) _ (ap option_copied c.in-Some-measure.is))
