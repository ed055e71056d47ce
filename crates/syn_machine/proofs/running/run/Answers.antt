use Rattle.std.proofs.Common.{◌-◌, refl, arith}
use Rattle.std.proofs.lemmas.Result.{err_from_is_err_and}
use Rattle.syn_model.specs.Evaluation.{free}
use Rattle.syn_eval.proofs.Rooms.{rooms_fewer}
use Rattle.syn_machine.specs.inner.Frames.{held}
use Rattle.syn_machine.specs.inner.Steps.{all_of}
use Rattle.syn_machine.proofs.Runs.{fails, goes_on, has_run, no_step, runs_down}
use Rattle.syn_machine.proofs.running.run.Goals as goal

pub loop-frame-init : goal.loop-frame-init
loop-frame-init c = (omega arith, (no_step c.args.turns (all_of c.args.set.now c.args.work.now), c.requires))

pub step-requires : goal.step-requires
step-requires c = c.loop-frame.invariant.1.1

pub overflow_sub-result : goal.overflow_sub-result
overflow_sub-result c = c.loop-frame.invariant.0

pub returns-in_err-left-clause-does : goal.returns-in_err-left-clause-does
returns-in_err-left-clause-does c =
    let p = err_from_is_err_and c.from_residual.result c.from_residual.ensures.1 in
    rw (p.1, p.2) (fails c.args.set.now c.args.turns c.loop-frame.left c.loop-frame.invariant.0 (all_of c.args.set.now c.args.work.now) c.loop-frame.work (record { frames = c.pop.new.self; values = c.loop-frame.work.values; truths = c.loop-frame.work.truths }) c.in-Some.frame c.in-Some.ensures refl refl
    c.loop-frame.invariant.1.0 c.step.new.work (λ n. free (held c.step.new.work)) c.in_err-left.field-0.0 c.in_err-left.ensures.does)

pub loop-frame-preserved : goal.loop-frame-preserved
loop-frame-preserved c = (
  omega (arith, c.loop-frame.invariant.0),
  (
    goes_on c.args.set.now c.args.turns c.loop-frame.left c.loop-frame.invariant.0 (all_of c.args.set.now c.args.work.now) c.loop-frame.work (record { frames = c.pop.new.self; values = c.loop-frame.work.values; truths = c.loop-frame.work.truths }) c.in-Some.frame c.in-Some.ensures refl refl c.loop-frame.invariant.1.0
        c.step.new.work c.in_ok-left.field-0 c.in_ok-left.ensures.does,
    c.in_ok-left.ensures.room,
  ),
)

pub loop-frame-smaller : goal.loop-frame-smaller
loop-frame-smaller c =
    runs_down c.args.set.now c.loop-frame.left c.in_ok-left.field-0 c.in-Some.frame (record { frames = c.pop.new.self; values = c.loop-frame.work.values; truths = c.loop-frame.work.truths }) c.step.new.work c.loop-frame.work.frames c.in_ok-left.ensures.does.0 c.in-Some.ensures c.in_ok-left.ensures.lighter

pub returns-clause-does : goal.returns-clause-does
returns-clause-does c =
    has_run c.args.set.now c.args.turns c.loop-frame.left (all_of c.args.set.now c.args.work.now) c.loop-frame.work (record { frames = c.pop.new.self; values = c.loop-frame.work.values; truths = c.loop-frame.work.truths }) c.loop-frame.invariant.0 c.in_default.ensures.0 refl refl c.loop-frame.invariant.1.0

pub returns-clause-room : goal.returns-clause-room
returns-clause-room c = rooms_fewer c.loop-frame.work.values c.loop-frame.left (c.args.turns - (c.args.turns - c.loop-frame.left)) (omega (arith, c.loop-frame.invariant.0)) c.loop-frame.invariant.1.1
