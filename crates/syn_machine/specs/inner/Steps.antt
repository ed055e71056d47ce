-- For private contracts: how one state of the machine leads to the next.
use Rattle.std.specs.Prelude.{◌≡◌, ℕ, ◌-◌, ◌^◌, ◌≤◌, Bool, List, [], ◌∷◌, ◌++◌, Option, None, Some, Result, Ok, Err, take}
use Rattle.std.specs.Option.{option_and_then}
use Rattle.syn_form.specs.Trees.{FormTree, OutTree}
use Rattle.syn_value.specs.declared.tree.ValueTree.{ValueTree}
use Rattle.syn_value.specs.Values.{number_of}
use Rattle.syn_model.specs.Calls.{Chosen, Meaning, by_function, by_relation}
use Rattle.syn_model.specs.Evaluation.{Counted, after, free, with_turns}
use Rattle.syn_eval.specs.declared.errors.EvalError.{EvalError}
use Rattle.syn_eval.specs.declared.errors.EvalError.TheVariants as error
use Rattle.syn_eval.specs.Ending.{IsSpent}
use Rattle.syn_eval.specs.inner.Scopes.{HaveRoom, below_at}
use Rattle.syn_machine.specs.declared.frames.Frame.{Frame}
use Rattle.syn_machine.specs.declared.frames.Work.{Work}
use Rattle.syn_machine.specs.inner.Frames.{Held, do_frames, held, in_turn}

-- What the one gives for some bound on the nesting, the other gives for some bound after the turns, and the other way round.
pub record Moves (cost : ℕ) (before : ℕ → Option (Counted Held)) (next : ℕ → Option (Counted Held)) : Type 0 where
  pub to : (n : ℕ) (c : Counted Held) → before n ≡ Some c → (k : ℕ) × (d : Counted Held) × (next k ≡ Some d) × (c ≡ with_turns cost d)
  pub back : (n : ℕ) (d : Counted Held) → next n ≡ Some d → (k : ℕ) × (before k ≡ Some (with_turns cost d))

-- a step's answer: the turns that it took, or that what is to do gives nothing within the turns that are left
abbrev pub Steps : ℕ → (ℕ → Option (Counted Held)) → (ℕ → Option (Counted Held)) → Result ℕ EvalError → Type 0
Steps left before next (Ok cost) = (cost ≤ left) × Moves cost before next
Steps left before next (Err error.TurnsSpent) = IsSpent before left
Steps left before next (Err error.NoMemory) = Unit {0}

-- what a state gives for each bound
abbrev pub given : Meaning → List Frame → Held → ℕ → Option (Counted Held)
given m fs h n = do_frames m n fs h

abbrev pub all_of : Meaning → Work → ℕ → Option (Counted Held)
all_of m w = given m w.frames (held w)

-- the frame, and then the work
abbrev pub with_frame : Meaning → Frame → Work → ℕ → Option (Counted Held)
with_frame m f w = given m (f ∷ w.frames) (held w)

-- what an arm of the machine does is what its frame means, whatever the symbols mean and however many turns are left
abbrev pub Does : Frame → Work → Work → Result ℕ EvalError → Type 0
Does f before next r = (m : Meaning) (left : ℕ) → Steps left (with_frame m f before) (all_of m next) r

-- what is done to what is held, and then the work
abbrev pub StepsFrom : Meaning → ℕ → (ℕ → Held → Option (Counted Held)) → Work → Work → Result ℕ EvalError → Type 0
StepsFrom m left does before next r = Steps left (λ n. in_turn (does n (held before)) (do_frames m n before.frames)) (all_of m next) r

-- the same as `Does` where symbols mean this and so many turns are left
abbrev pub DoesIn : Meaning → ℕ → Frame → Work → Work → Result ℕ EvalError → Type 0
DoesIn m left f before next r = Steps left (with_frame m f before) (all_of m next) r

-- what is given on the values from the place on, in their place
abbrev pub put_at : ℕ → Held → Option (Counted ValueTree) → Option (Counted Held)
put_at base h o = in_turn o (λ v. free (record { values = take base h.values ++ v ∷ []; truths = h.truths }))

abbrev pub tell_at : ℕ → Held → Option (Counted Bool) → Option (Counted Held)
tell_at base h o = in_turn o (λ b. free (record { values = take base h.values; truths = b ∷ h.truths }))

-- the body of a clause that was chosen, one level below
abbrev pub function_entered : Meaning → Chosen OutTree → ℕ → Option (Counted ValueTree)
function_entered m c n = option_and_then (λ below. after 1 (by_function (below []) c)) (below_at m n)

abbrev pub relation_entered : Meaning → Chosen FormTree → ℕ → Option (Counted Bool)
relation_entered m c n = option_and_then (λ below. after 1 (by_relation (below []) c)) (below_at m n)

-- these frames stand in front of the others, and all else is as it was
pub record Puts (fs : List Frame) (before next : Work) : Type 0 where
  pub frames : next.frames ≡ fs ++ before.frames
  pub values : next.values ≡ before.values
  pub truths : next.truths ≡ before.truths

-- the last value is let go of, and is this number; or there is none, or it is no number
abbrev pub TakesNumber : Work → Work → Option ℕ → Type 0
TakesNumber before next (Some k) = (v : ValueTree) × (before.values ≡ next.values ++ v ∷ []) × (number_of v ≡ Some k) × (next.frames ≡ before.frames) × (next.truths ≡ before.truths)
TakesNumber before next None = (vs : List ValueTree) (v : ValueTree) → before.values ≡ vs ++ v ∷ [] → number_of v ≡ None

-- each number in the values may still grow by the turns that are left then
abbrev pub HasRoomAfter : ℕ → Work → Result ℕ EvalError → Type 0
HasRoomAfter left next (Ok cost) = HaveRoom (left - cost) next.values
HasRoomAfter left next (Err e) = Unit {0}

abbrev pub KeepsRoom : Work → Work → Result ℕ EvalError → Type 0
KeepsRoom before next r = (left : ℕ) → left ≤ 2 ^ 64 - 1 → HaveRoom left before.values → HasRoomAfter left next r
