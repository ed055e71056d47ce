use Rattle.std.proofs.Common.{refl, arith}
use Rattle.syn_machine.proofs.Lighter.{member_less}
use Rattle.syn_machine.proofs.Outs.{chain_does, chain_ended}
use Rattle.syn_machine.proofs.Pushes.{first_and_rest, no_items, three_pushed}
use Rattle.syn_machine.proofs.forms.next_member.Goals as goal

pub returns-in-empty-clause-does : goal.returns-in-empty-clause-does
returns-in-empty-clause-does c = chain_ended c.args.work.now c.args.work.now c.args.scope c.args.connective c.args.rest (no_items c.args.rest.now (omega arith)) refl refl refl

pub returns-in_ok-push-in-len1-up-3-clause-does : goal.returns-in_ok-push-in-len1-up-3-clause-does
returns-in_ok-push-in-len1-up-3-clause-does c =
    chain_does c.args.work.now (record { frames = c.push-in-len1-up-2.new.self; values = c.args.work.now.values; truths = c.args.work.now.truths }) c.args.scope c.args.connective c.args.rest _ _ (first_and_rest c.args.rest.now c.form-item.result (omega arith) c.form-item.is) refl refl
    (three_pushed _ _ _ _ _ _ _ c.in_ok-push-in-len1-up.ensures c.in_ok-push-in-len1-up-2.ensures c.in_ok-push-in-len1-up-3.ensures)

pub returns-in_ok-push-in-len1-up-3-clause-lighter : goal.returns-in_ok-push-in-len1-up-3-clause-lighter
returns-in_ok-push-in-len1-up-3-clause-lighter c m =
    member_less m c.args.work.now.frames c.push-in-len1-up-2.new.self c.args.scope c.args.connective c.args.rest.now _ _ (first_and_rest c.args.rest.now c.form-item.result (omega arith) c.form-item.is)
    (three_pushed _ _ _ _ _ _ _ c.in_ok-push-in-len1-up.ensures c.in_ok-push-in-len1-up-2.ensures c.in_ok-push-in-len1-up-3.ensures)
