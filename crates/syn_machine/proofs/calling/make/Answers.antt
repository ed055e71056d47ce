use Rattle.std.proofs.Common.{[], ◌∷◌, ◌++◌, Err, drop, sym, ap, subst, ◌∙◌}
use Rattle.std.proofs.lemmas.Result.{err_from_is_err_and}
use Rattle.syn_model.specs.Calls.{constructed}
use Rattle.syn_eval.specs.Ending.{Ends}
use Rattle.syn_eval.proofs.Rooms.{drop_rooms, take_rooms}
use Rattle.syn_machine.proofs.Made.{made_does, made_fails}
use Rattle.syn_machine.proofs.Rooming.{put_rooms}
use Rattle.syn_machine.proofs.calling.make.Goals as goal

pub construct-requires : goal.construct-requires
construct-requires c = drop_rooms c.args.left c.args.base c.args.work.now.values _ (c.behind.ensures ∙ ap (drop c.args.base) c.as_slice.ensures) c.requires.fits

pub returns-in_err-value-clause-does : goal.returns-in_err-value-clause-does
returns-in_err-value-clause-does c =
    let p = err_from_is_err_and c.from_residual.result c.from_residual.ensures.1 in
    rw (p.1, p.2) (made_fails c.args.work.now c.args.work.now c.args.base c.args.set.now c.args.left (constructed c.args.kind (drop c.args.base c.args.work.now.values)) c.in_err-value.field-0.0
    (subst (λ z. Ends (λ _. constructed c.args.kind z) c.args.left (Err c.in_err-value.field-0.0)) (c.behind.ensures ∙ ap (drop c.args.base) c.as_slice.ensures) c.in_err-value.ensures.ends))

pub returns-clause-does : goal.returns-clause-does
returns-clause-does c =
    made_does c.args.work.now (record { frames = c.args.work.now.frames; values = c.push.new.self; truths = c.args.work.now.truths }) c.args.base c.args.set.now c.args.left (constructed c.args.kind (drop c.args.base c.args.work.now.values)) c.in_ok-value.value c.in_ok-value.used
    c.in_ok-value.ensures.within (ap (constructed c.args.kind) (sym (c.behind.ensures ∙ ap (drop c.args.base) c.as_slice.ensures)) ∙ c.in_ok-value.ensures.ends.is) (c.in_ok-push.ensures.ok ∙ ap (λ z. z ++ c.in_ok-value.value ∷ []) c.cut.ensures) (λ i. c.args.work.now.truths) (λ i. c.args.work.now.frames)

pub returns-clause-room : goal.returns-clause-room
returns-clause-room c = put_rooms c.args.left c.in_ok-value.used c.cut.new.values c.in_ok-value.value _ c.in_ok-push.ensures.ok (take_rooms c.args.left c.args.base c.args.work.now.values _ c.cut.ensures c.requires.fits) c.in_ok-value.ensures.fits
