-- For private contracts: why the machine ends. A step makes what is to do lighter, or takes a turn, which outweighs every body.
use Rattle.std.specs.Prelude.{ℕ, ◌+◌, ◌-◌, ◌*◌, ◌<◌, List, [], ◌∷◌, Result, Ok, Err, map, sum}
use Rattle.syn_term.specs.Terms.{nodes}
use Rattle.syn_form.specs.Trees.{form_nodes, out_nodes}
use Rattle.syn_model.specs.Calls.{Meaning}
use Rattle.syn_eval.specs.declared.errors.EvalError.{EvalError}
use Rattle.syn_eval.specs.inner.Weights.{all_nodes}
use Rattle.syn_machine.specs.declared.frames.Frame.{Frame}
use Rattle.syn_machine.specs.declared.frames.Frame.TheVariants as frame
use Rattle.syn_machine.specs.declared.frames.Work.{Work}

abbrev pub frame_weight : Frame → ℕ
frame_weight (frame.Term s t) = 4 * nodes t.now - 2
frame_weight (frame.Apply s f count rest) = 1 + 4 * sum (map nodes rest.now)
frame_weight (frame.Form s f) = 4 * form_nodes f.now - 2
frame_weight (frame.Ask s r count rest) = 1 + 4 * sum (map nodes rest.now)
frame_weight (frame.Chain s c rest) = 1 + 4 * sum (map form_nodes rest.now)
frame_weight (frame.Out s o) = 4 * out_nodes o.now - 1
frame_weight (frame.Choose s o p) = 1 + 4 * (out_nodes o.now + out_nodes p.now)
frame_weight _ = 1

abbrev pub weigh : List Frame → ℕ
weigh [] = 0
weigh (f ∷ fs) = frame_weight f + weigh fs

-- what a turn is worth
abbrev pub turn_weight : Meaning → ℕ
turn_weight m = 8 * all_nodes m + 4

-- a step of a frame of this weight
abbrev pub GetsLighter : Meaning → ℕ → Work → Work → Result ℕ EvalError → Type 0
GetsLighter m weight before next (Ok cost) = weigh next.frames < cost * turn_weight m + (weight + weigh before.frames)
GetsLighter m weight before next (Err e) = Unit {0}
