use Rattle.std.proofs.Common.{refl, rules}
use Rattle.syn_machine.proofs.Outs.{give_does, if_does}
use Rattle.syn_machine.proofs.Pushes.{two_pushed}
use Rattle.syn_machine.proofs.outputs.open_out.Goals as goal

pub returns-in_ok-push-in-Give-clause-does : goal.returns-in_ok-push-in-Give-clause-does
returns-in_ok-push-in-Give-clause-does c =
    give_does c.args.work.now (record { frames = c.push.new.self; values = c.args.work.now.values; truths = c.args.work.now.truths }) c.args.scope c.args.out _ _ c.in-Give.is (search rules) refl refl c.in_ok-push-in-Give.ensures

pub returns-in_ok-push-in-If-2-clause-does : goal.returns-in_ok-push-in-If-2-clause-does
returns-in_ok-push-in-If-2-clause-does c =
    if_does c.args.work.now (record { frames = c.push-in-If-2.new.self; values = c.args.work.now.values; truths = c.args.work.now.truths }) c.args.scope c.args.out _ _ _ _ _ _ c.in-If.is (search rules) (search rules) (search rules) refl refl
    (two_pushed _ _ _ _ _ c.in_ok-push-in-If.ensures c.in_ok-push-in-If-2.ensures)
