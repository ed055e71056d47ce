use Rattle.std.proofs.Common.{[], ◌∷◌, ◌++◌, None, drop, refl, sym, ap, ◌∙◌, arith}
use Rattle.std.proofs.lemmas.List.{take_all}
use Rattle.syn_term.specs.declared.sorts.Kind.TheVariants as kinds
use Rattle.syn_model.specs.Calls.{input_value, value_by}
use Rattle.syn_model.specs.Evaluation.{free}
use Rattle.syn_eval.proofs.Rooms.{input_room, rooms_same}
use Rattle.syn_machine.specs.inner.Frames.{inputs_of}
use Rattle.syn_machine.proofs.Entering.{nothing_put}
use Rattle.syn_machine.proofs.Made.{input_none, input_some, made_does}
use Rattle.syn_machine.proofs.Rooming.{inputs_rooms, put_rooms}
use Rattle.syn_machine.proofs.calling.read_input.Goals as goal

pub returns-then-base-len-clause-does : goal.returns-then-base-len-clause-does
returns-then-base-len-clause-does c =
    nothing_put c.args.work.now c.args.base c.args.set.now c.args.left (λ _. value_by c.args.set.now None (inputs_of c.args.scope c.args.work.now.values) c.args.f [] (drop c.args.base c.args.work.now.values) kinds.Input)
    (λ _. input_none c.args.set.now (inputs_of c.args.scope c.args.work.now.values) c.args.f c.args.base c.args.work.now.values (omega arith))

pub returns-clause-does : goal.returns-clause-does
returns-clause-does c =
    let inputs = inputs_of c.args.scope c.args.work.now.values in
    made_does c.args.work.now (record { frames = c.args.work.now.frames; values = c.push.new.self; truths = c.args.work.now.truths }) c.args.base c.args.set.now c.args.left (value_by c.args.set.now None inputs c.args.f [] (drop c.args.base c.args.work.now.values) kinds.Input) c.in_ok-value.value 0
    (omega arith) (input_some c.args.set.now inputs c.args.f c.args.base c.args.work.now.values (omega arith) ∙ ap (λ z. free z) (ap (λ z. input_value c.args.set.now z c.args.f) (sym (c.inputs.ensures ∙ ap (inputs_of c.args.scope) c.as_slice.ensures)) ∙ sym c.in_ok-value.ensures))
    (c.in_ok-push.ensures.ok ∙ ap (λ z. z ++ c.in_ok-value.value ∷ []) (sym (take_all c.args.base c.args.work.now.values (omega arith)))) refl refl

pub returns-clause-room : goal.returns-clause-room
returns-clause-room c =
    put_rooms c.args.left 0 c.args.work.now.values c.in_ok-value.value _ c.in_ok-push.ensures.ok c.requires.fits
    (input_room c.args.left c.args.set.now c.inputs.result.now c.args.f c.in_ok-value.value (omega (arith, c.ranges.left.fits)) c.in_ok-value.ensures (rooms_same c.args.left _ _ (sym (c.inputs.ensures ∙ ap (inputs_of c.args.scope) c.as_slice.ensures)) (inputs_rooms c.args.left c.args.scope c.args.work.now.values c.requires.fits)))
