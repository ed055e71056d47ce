-- The machine from its start to its end: what the frames gave at the start, they give after the turns used so far.
use Rattle.std.proofs.Common.{◌≡◌, ℕ, ◌+◌, ◌-◌, ◌*◌, ◌<◌, ◌≤◌, List, [], ◌∷◌, Option, Ok, Err, sym, ap, subst, ◌∙◌, arith}
use Rattle.std.proofs.Math.Nat.{add-mul}
use Rattle.syn_model.specs.Calls.{Meaning}
use Rattle.syn_model.specs.Evaluation.{Counted, free}
use Rattle.syn_eval.specs.declared.errors.EvalError.{EvalError}
use Rattle.syn_eval.specs.declared.errors.EvalError.TheVariants as error
use Rattle.syn_machine.specs.declared.frames.Frame.{Frame}
use Rattle.syn_machine.specs.declared.frames.Work.{Work}
use Rattle.syn_machine.specs.inner.Frames.{Held, do_frames, held}
use Rattle.syn_machine.specs.inner.Steps.{DoesIn, Moves, Steps, all_of, with_frame}
use Rattle.syn_machine.specs.inner.Weights.{GetsLighter, frame_weight, turn_weight, weigh}
use Rattle.syn_machine.proofs.Moving.{moves_none_yet, moves_twice, spent_behind}

abbrev State : Type 0
State = ℕ → Option (Counted Held)

moves_from : (cost : ℕ) (a b next : State) → ((n : ℕ) → a n ≡ b n) → Moves cost a next → Moves cost b next
moves_from cost a b next e m = record {
  to = λ n c k. m.to n c (e n ∙ k);
  back = λ n d k. let p = m.back n d k in (p.0, sym (e p.0) ∙ p.1);
}

moves_to : (cost : ℕ) (start a b : State) → ((n : ℕ) → a n ≡ b n) → Moves cost start a → Moves cost start b
moves_to cost start a b e m = record {
  to = λ n c k. let p = m.to n c k in (p.0, p.1, sym (e p.0) ∙ p.2, p.3);
  back = λ n d k. m.back n d (e n ∙ k);
}

pub no_step : (turns : ℕ) (x : State) → Moves (turns - turns) x x
no_step turns x = let none : 0 ≡ turns - turns = omega arith in subst (λ k. Moves k x x) none (moves_none_yet x)

-- the first frame was taken from the others
module _ (m : Meaning) (turns left : ℕ) (le : left ≤ turns) (start : State) (work rest : Work) (f : Frame) (fs : work.frames ≡ f ∷ rest.frames) (v : rest.values ≡ work.values) (t : rest.truths ≡ work.truths) (so_far : Moves (turns - left) start (all_of m work)) where
  popped : (n : ℕ) → all_of m work n ≡ with_frame m f rest n
  popped n = λ i. do_frames m n (fs i) (record { values = sym v i; truths = sym t i })

  here : Moves (turns - left) start (with_frame m f rest)
  here = moves_to (turns - left) start (all_of m work) (with_frame m f rest) popped so_far

  pub goes_on : (next : Work) (cost : ℕ) → DoesIn m left f rest next (Ok cost) → Moves (turns - (left - cost)) start (all_of m next)
  goes_on next cost h =
      let sum : (turns - left) + cost ≡ turns - (left - cost) = omega (arith, le, h.0) in
      subst (λ k. Moves k start (all_of m next)) sum (moves_twice (turns - left) cost start (with_frame m f rest) (all_of m next) here h.1)

  pub fails : (next : Work) (after : State) (e : EvalError) → DoesIn m left f rest next (Err e) → Steps turns start after (Err e)
  fails next after error.TurnsSpent h = spent_behind (turns - left) left turns start (with_frame m f rest) (omega (arith, le)) here h
  fails next after error.NoMemory h = tt

-- no frame is left
pub has_run : (m : Meaning) (turns left : ℕ) (start : State) (work next : Work) → left ≤ turns → work.frames ≡ [] → next.values ≡ work.values → next.truths ≡ work.truths → Moves (turns - left) start (all_of m work) → Steps turns start (λ n. free (held next)) (Ok (turns - left))
has_run m turns left start work next le fs v t h =
    (omega (arith, le), moves_to (turns - left) start (all_of m work) (λ n. free (held next)) (λ n i. do_frames m n (fs i) (record { values = sym v i; truths = sym t i })) h)

-- fewer turns, or as many and less to do
pub runs_down : (m : Meaning) (left cost : ℕ) (f : Frame) (rest next : Work) (fs : List Frame) → cost ≤ left → fs ≡ f ∷ rest.frames → GetsLighter m (frame_weight f) rest next (Ok cost) → (left - cost) * turn_weight m + weigh next.frames < left * turn_weight m + weigh fs
runs_down m left cost f rest next fs le e h =
    let w : weigh fs ≡ frame_weight f + weigh rest.frames = ap weigh e in
    let d : (left - cost) * turn_weight m + cost * turn_weight m ≡ left * turn_weight m = split left cost le in
    omega (arith, w, d, h)
  where
    split : (l k : ℕ) → k ≤ l → (l - k) * turn_weight m + k * turn_weight m ≡ l * turn_weight m
    split l k lk = let sum : (l - k) + k ≡ l = omega (arith, lk) in sym (add-mul (l - k) k (turn_weight m)) ∙ ap (λ z. z * turn_weight m) sum
