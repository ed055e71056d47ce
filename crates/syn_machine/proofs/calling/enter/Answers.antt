use Rattle.std.proofs.Common.{◌++◌, refl, ap, ◌∙◌}
use Rattle.syn_eval.specs.inner.Rules.{choice_seen}
use Rattle.syn_machine.proofs.Entering.{function_enters}
use Rattle.syn_machine.proofs.Pushes.{two_pushed}
use Rattle.syn_machine.proofs.Rooming.{entered_rooms}
use Rattle.syn_machine.proofs.calling.enter.Goals as goal

pub returns-clause-does : goal.returns-clause-does
returns-clause-does c m left some =
    function_enters c.args.work.now (record { frames = c.push-2.new.self; values = c.append.new.self; truths = c.args.work.now.truths }) c.args.base c.requires c.args.chosen.values c.len.result
    (c.in_ok-append.ensures ∙ ap (λ z. z ++ c.args.chosen.values) c.cut.ensures) refl c.len.ensures (choice_seen c.args.chosen) _ refl refl (two_pushed _ _ _ _ _ c.in_ok-push.ensures c.in_ok-push-2.ensures) m left some

pub returns-clause-room : goal.returns-clause-room
returns-clause-room c left h k = entered_rooms left c.args.base c.args.work.now.values c.cut.new.values c.args.chosen.values _ c.cut.ensures c.in_ok-append.ensures h k
