use Rattle.std.proofs.Common.{◌+◌, ◌-◌, ◌/◌, ◌≡◌, drop, length, refl, sym, ap, ◌∙◌, arith}
use Rattle.std.proofs.lemmas.List.{length-drop}
use Rattle.syn_model.specs.Calls.{half}
use Rattle.syn_eval.proofs.Measures.{half_is}
use Rattle.syn_eval.proofs.Rooms.{rooms_fewer}
use Rattle.syn_machine.proofs.Ordering.{order_enters}
use Rattle.syn_machine.proofs.Pushes.{three_pushed}
use Rattle.syn_machine.proofs.asking.ask_order.Goals as goal

pub returns-clause-does : goal.returns-clause-does
returns-clause-does c m =
    let size : length (drop c.args.base c.args.work.now.values) ≡ length c.args.work.now.values - c.args.base = length-drop c.args.base c.args.work.now.values in
    let last : c.len-end.result ≡ length c.args.work.now.values = c.len-end.ensures in
    let halved : (c.len-end.result - c.args.base) / 2 ≡ half (length (drop c.args.base c.args.work.now.values)) = ap (λ z. (z - c.args.base) / 2) last ∙ (ap (λ z. z / 2) (sym size) ∙ half_is (length (drop c.args.base c.args.work.now.values))) in
    order_enters c.args.work.now (record { frames = c.push-3.new.self; values = c.args.work.now.values; truths = c.args.work.now.truths }) c.args.base c.requires.within m c.args.left (omega arith) c.args.measure.now _ _ _ c.len-end.result
    refl refl (ap (λ z. c.args.base + z) halved) last refl refl (three_pushed _ _ _ _ _ _ _ c.in_ok-push.ensures c.in_ok-push-2.ensures c.in_ok-push-3.ensures)

pub returns-clause-room : goal.returns-clause-room
returns-clause-room c = rooms_fewer c.args.work.now.values c.args.left (c.args.left - 1) (omega arith) c.requires.fits
