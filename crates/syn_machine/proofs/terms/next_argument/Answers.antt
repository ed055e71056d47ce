use Rattle.std.proofs.Common.{refl, arith}
use Rattle.syn_machine.proofs.Lighter.{argument_less}
use Rattle.syn_machine.proofs.Pushes.{first_and_rest, no_items, two_pushed}
use Rattle.syn_machine.proofs.Steps.{argument_does, symbol_next}
use Rattle.syn_machine.proofs.terms.next_argument.Goals as goal

pub returns-in-empty-clause-does : goal.returns-in-empty-clause-does
returns-in-empty-clause-does c = symbol_next c.args.work.now c.apply.new.work c.args.set.now c.args.left c.args.scope c.args.symbol c.args.count c.args.rest (no_items c.args.rest.now (omega arith)) c.apply.result c.apply.ensures.does

pub returns-in_ok-push-in-len1-up-2-clause-does : goal.returns-in_ok-push-in-len1-up-2-clause-does
returns-in_ok-push-in-len1-up-2-clause-does c =
    argument_does c.args.work.now (record { frames = c.push-in-len1-up.new.self; values = c.args.work.now.values; truths = c.args.work.now.truths }) c.args.set.now c.args.left c.args.scope c.args.symbol c.args.count c.args.rest _ _ (first_and_rest c.args.rest.now c.term-item.result (omega arith) c.term-item.is) refl refl
    (two_pushed _ _ _ _ _ c.in_ok-push-in-len1-up.ensures c.in_ok-push-in-len1-up-2.ensures)

pub returns-in_ok-push-in-len1-up-2-clause-lighter : goal.returns-in_ok-push-in-len1-up-2-clause-lighter
returns-in_ok-push-in-len1-up-2-clause-lighter c =
    argument_less c.args.set.now c.args.work.now.frames c.push-in-len1-up.new.self c.args.scope c.args.symbol c.args.count c.args.rest.now _ _ (first_and_rest c.args.rest.now c.term-item.result (omega arith) c.term-item.is)
    (two_pushed _ _ _ _ _ c.in_ok-push-in-len1-up.ensures c.in_ok-push-in-len1-up-2.ensures)
