use Rattle.syn_machine.specs.declared.frames.Frame.TheVariants as frame
use Rattle.syn_machine.proofs.Steps.{known_does, known_lighter}
use Rattle.syn_machine.proofs.running.settle.Goals as goal

pub returns-in-Same-clause-does : goal.returns-in-Same-clause-does
returns-in-Same-clause-does c = known_does c.args.frame frame.Same c.in-Same.is c.args.work.now c.compare.new.work c.compare.result c.compare.ensures.does

pub returns-in-Same-clause-lighter : goal.returns-in-Same-clause-lighter
returns-in-Same-clause-lighter c = known_lighter c.args.frame frame.Same c.in-Same.is c.args.work.now c.compare.new.work c.compare.result c.compare.ensures.lighter

pub returns-in-Not-clause-does : goal.returns-in-Not-clause-does
returns-in-Not-clause-does c = known_does c.args.frame frame.Not c.in-Not.is c.args.work.now c.negate.new.work c.negate.result c.negate.ensures.does

pub returns-in-Not-clause-lighter : goal.returns-in-Not-clause-lighter
returns-in-Not-clause-lighter c = known_lighter c.args.frame frame.Not c.in-Not.is c.args.work.now c.negate.new.work c.negate.result c.negate.ensures.lighter

pub returns-in-Join-clause-does : goal.returns-in-Join-clause-does
returns-in-Join-clause-does c = known_does c.args.frame (frame.Join c.in-Join.connective) c.in-Join.is c.args.work.now c.join.new.work c.join.result c.join.ensures.does

pub returns-in-Join-clause-lighter : goal.returns-in-Join-clause-lighter
returns-in-Join-clause-lighter c = known_lighter c.args.frame (frame.Join c.in-Join.connective) c.in-Join.is c.args.work.now c.join.new.work c.join.result c.join.ensures.lighter

pub returns-in-Return-clause-does : goal.returns-in-Return-clause-does
returns-in-Return-clause-does c = known_does c.args.frame (frame.Return c.in-Return.base) c.in-Return.is c.args.work.now c.give_back.new.work c.give_back.result c.give_back.ensures.does

pub returns-in-Return-clause-lighter : goal.returns-in-Return-clause-lighter
returns-in-Return-clause-lighter c = known_lighter c.args.frame (frame.Return c.in-Return.base) c.in-Return.is c.args.work.now c.give_back.new.work c.give_back.result c.give_back.ensures.lighter

pub returns-in-Forget-clause-does : goal.returns-in-Forget-clause-does
returns-in-Forget-clause-does c = known_does c.args.frame (frame.Forget c.in-Forget.base) c.in-Forget.is c.args.work.now c.forget.new.work c.forget.result c.forget.ensures.does

pub returns-in-Forget-clause-lighter : goal.returns-in-Forget-clause-lighter
returns-in-Forget-clause-lighter c = known_lighter c.args.frame (frame.Forget c.in-Forget.base) c.in-Forget.is c.args.work.now c.forget.new.work c.forget.result c.forget.ensures.lighter

pub returns-in-Below-clause-does : goal.returns-in-Below-clause-does
returns-in-Below-clause-does c = known_does c.args.frame (frame.Below c.in-Below.base) c.in-Below.is c.args.work.now c.tell_below.new.work c.tell_below.result c.tell_below.ensures.does

pub returns-in-Below-clause-lighter : goal.returns-in-Below-clause-lighter
returns-in-Below-clause-lighter c = known_lighter c.args.frame (frame.Below c.in-Below.base) c.in-Below.is c.args.work.now c.tell_below.new.work c.tell_below.result c.tell_below.ensures.lighter

pub returns-in-Chain-clause-does : goal.returns-in-Chain-clause-does
returns-in-Chain-clause-does c = known_does c.args.frame (frame.Chain c.in-Chain.scope c.in-Chain.connective c.in-Chain.rest) c.in-Chain.is c.args.work.now c.next_member.new.work c.next_member.result c.next_member.ensures.does

pub returns-in-Chain-clause-lighter : goal.returns-in-Chain-clause-lighter
returns-in-Chain-clause-lighter c = known_lighter c.args.frame (frame.Chain c.in-Chain.scope c.in-Chain.connective c.in-Chain.rest) c.in-Chain.is c.args.work.now c.next_member.new.work c.next_member.result c.next_member.ensures.lighter

pub returns-in-Choose-clause-does : goal.returns-in-Choose-clause-does
returns-in-Choose-clause-does c = known_does c.args.frame (frame.Choose c.in-Choose.scope c.in-Choose.first c.in-Choose.second) c.in-Choose.is c.args.work.now c.take_arm.new.work c.take_arm.result c.take_arm.ensures.does

pub returns-in-Choose-clause-lighter : goal.returns-in-Choose-clause-lighter
returns-in-Choose-clause-lighter c = known_lighter c.args.frame (frame.Choose c.in-Choose.scope c.in-Choose.first c.in-Choose.second) c.in-Choose.is c.args.work.now c.take_arm.new.work c.take_arm.result c.take_arm.ensures.lighter
