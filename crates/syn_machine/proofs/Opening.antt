-- What an arm of the machine does: it ends its frame, or puts others in its place.
use Rattle.std.proofs.Common.{◌≡◌, ℕ, List, ◌∷◌, Option, None, Ok, Err, sym, ap, ◌∙◌, arith}
use Rattle.syn_model.specs.Calls.{Meaning}
use Rattle.syn_model.specs.Evaluation.{Counted, free}
use Rattle.syn_eval.specs.declared.errors.EvalError.TheVariants as error
use Rattle.syn_eval.proofs.Answers.{never}
use Rattle.syn_machine.specs.declared.frames.Frame.{Frame}
use Rattle.syn_machine.specs.declared.frames.Work.{Work}
use Rattle.syn_machine.specs.inner.Frames.{Held, do_frame, do_frames, held, in_turn}
use Rattle.syn_machine.specs.inner.Steps.{Does, all_of, with_frame}
use Rattle.syn_machine.proofs.Turns.{after-zero, free-in_turn, in_turn-in_turn, in_turn-same}
use Rattle.syn_machine.proofs.Moving.{moves_same}

module _ (f : Frame) (before next : Work) where
  -- the frame gives nothing
  pub is_stuck : ((m : Meaning) (n : ℕ) → do_frame m n f (held before) ≡ None) → Does f before next (Err error.TurnsSpent)
  is_stuck none m left = never (with_frame m f before) left (λ n. ap (λ (z : Option (Counted Held)). in_turn z (do_frames m n before.frames)) (none m n))

  same_does : ((m : Meaning) (n : ℕ) → with_frame m f before n ≡ all_of m next n) → Does f before next (Ok 0)
  same_does e m left = (omega arith, moves_same 0 (with_frame m f before) (all_of m next) (λ n. e m n ∙ sym (after-zero (all_of m next n))))

  frames_at : (fs : List Frame) → next.frames ≡ fs → (m : Meaning) (n : ℕ) → do_frames m n fs (held next) ≡ all_of m next n
  frames_at fs e m n = ap (λ (z : List Frame). do_frames m n z (held next)) (sym e)

  -- the frame has ended
  pub has_ended : ((m : Meaning) (n : ℕ) → do_frame m n f (held before) ≡ free (held next)) → next.frames ≡ before.frames → Does f before next (Ok 0)
  has_ended e fs = same_does (λ m n.
      ap (λ (z : Option (Counted Held)). in_turn z (do_frames m n before.frames)) (e m n)
      ∙ (free-in_turn (held next) (do_frames m n before.frames) ∙ frames_at before.frames fs m n))

  -- one frame stands in its place, two or three
  pub opens_one : (g : Frame) → ((m : Meaning) (n : ℕ) → do_frame m n f (held before) ≡ do_frame m n g (held next)) → next.frames ≡ g ∷ before.frames → Does f before next (Ok 0)
  opens_one g e fs = same_does (λ m n. ap (λ (z : Option (Counted Held)). in_turn z (do_frames m n before.frames)) (e m n) ∙ frames_at (g ∷ before.frames) fs m n)

  pub opens_two : (g k : Frame) → ((m : Meaning) (n : ℕ) → do_frame m n f (held before) ≡ in_turn (do_frame m n g (held next)) (do_frame m n k)) → next.frames ≡ g ∷ (k ∷ before.frames) → Does f before next (Ok 0)
  opens_two g k e fs = same_does (λ m n.
      ap (λ (z : Option (Counted Held)). in_turn z (do_frames m n before.frames)) (e m n)
      ∙ (in_turn-in_turn (do_frame m n g (held next)) (do_frame m n k) (do_frames m n before.frames) ∙ frames_at (g ∷ (k ∷ before.frames)) fs m n))

  pub opens_three : (g k l : Frame) → ((m : Meaning) (n : ℕ) → do_frame m n f (held before) ≡ in_turn (do_frame m n g (held next)) (λ x. in_turn (do_frame m n k x) (do_frame m n l))) → next.frames ≡ g ∷ (k ∷ (l ∷ before.frames)) → Does f before next (Ok 0)
  opens_three g k l e fs = same_does (λ m n.
      ap (λ (z : Option (Counted Held)). in_turn z (do_frames m n before.frames)) (e m n)
      ∙ (in_turn-in_turn (do_frame m n g (held next)) (λ x. in_turn (do_frame m n k x) (do_frame m n l)) (do_frames m n before.frames)
      ∙ (in_turn-same (do_frame m n g (held next)) (λ x. in_turn (in_turn (do_frame m n k x) (do_frame m n l)) (do_frames m n before.frames)) (λ x. in_turn (do_frame m n k x) (λ y. in_turn (do_frame m n l y) (do_frames m n before.frames)))
      (λ x. in_turn-in_turn (do_frame m n k x) (do_frame m n l) (do_frames m n before.frames))
      ∙ frames_at (g ∷ (k ∷ (l ∷ before.frames))) fs m n)))
