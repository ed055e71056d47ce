-- For private contracts: what each frame does to the values and the truth values, and what a list of frames does.
use Rattle.std.specs.Prelude.{ℕ, ◌-◌, Bool, true, false, not, ◌&&◌, ◌||◌, List, [], ◌∷◌, ◌++◌, Option, None, if◌then◌else◌, drop, length, nat_lt, take}
use Rattle.std.specs.Option.{option_and_then}
use Rattle.syn_term.specs.declared.sorts.SymId.{SymId}
use Rattle.syn_term.specs.Terms.{TermTree}
use Rattle.syn_form.specs.Trees.{FormTree, OutTree}
use Rattle.syn_value.specs.declared.tree.ValueTree.{ValueTree}
use Rattle.syn_value.specs.Values.{number_of, same_value}
use Rattle.syn_model.specs.Calls.{Meaning, numbered_values, reading_at, smaller}
use Rattle.syn_model.specs.Evaluation.{Counted, after, evaluate_form, evaluate_out, evaluate_term, free}
use Rattle.syn_machine.specs.declared.frames.Connective.{Connective}
use Rattle.syn_machine.specs.declared.frames.Connective.TheVariants as connective
use Rattle.syn_machine.specs.declared.frames.Frame.{Frame}
use Rattle.syn_machine.specs.declared.frames.Frame.TheVariants as frame
use Rattle.syn_machine.specs.declared.frames.Scope.{Scope}
use Rattle.syn_machine.specs.declared.frames.Scope.TheVariants as scope
use Rattle.syn_machine.specs.declared.frames.Work.{Work}

-- the values and the truth values; the last truth value stands in front
pub record Held : Type 0 where
  pub values : List ValueTree
  pub truths : List Bool

abbrev pub held : Work → Held
held w = record { values = w.values; truths = w.truths }

abbrev pub end_of : Scope → ℕ
end_of (scope.Inputs from to) = to
end_of (scope.Variables from to) = to

abbrev pub between : ℕ → ℕ → List ValueTree → List ValueTree
between from to vs = take (to - from) (drop from vs)

abbrev pub inputs_of : Scope → List ValueTree → List ValueTree
inputs_of (scope.Inputs from to) vs = between from to vs
inputs_of (scope.Variables from to) vs = []

abbrev pub variables_of : Scope → List ValueTree → List ValueTree
variables_of (scope.Inputs from to) vs = []
variables_of (scope.Variables from to) vs = between from to vs

-- one after another, with the turns of both
abbrev pub in_turn : {A B : Type 0} → Option (Counted A) → (A → Option (Counted B)) → Option (Counted B)
in_turn o k = option_and_then (λ c. after c.turns (k c.result)) o

abbrev pub with_value : Held → ValueTree → Option (Counted Held)
with_value h v = free (record { values = h.values ++ v ∷ []; truths = h.truths })

abbrev pub with_truth : Held → Bool → Option (Counted Held)
with_truth h b = free (record { values = h.values; truths = b ∷ h.truths })

-- where all values are there that the scope reads
abbrev pub inside : {A : Type 0} → Scope → Held → Option A → Option A
inside s h o = if nat_lt (length h.values) (end_of s) then None else o

-- where so many values are there
abbrev pub with_last : {A : Type 0} → ℕ → List ValueTree → (List ValueTree → List ValueTree → Option A) → Option A
with_last count vs k = if nat_lt (length vs) count then None else k (take (length vs - count) vs) (drop (length vs - count) vs)

abbrev pub joined_by : Connective → Bool → Bool → Bool
joined_by connective.And x y = x && y
joined_by connective.Or x y = x || y
joined_by connective.Implies x y = not x || y

-- the last two truth values, the last one, or none
abbrev pub do_join : Connective → List ValueTree → List Bool → Option (Counted Held)
do_join c vs (y ∷ (x ∷ bs)) = free (record { values = vs; truths = joined_by c x y ∷ bs })
do_join c vs (y ∷ []) = None
do_join c vs [] = None

abbrev pub do_not : List ValueTree → List Bool → Option (Counted Held)
do_not vs (x ∷ bs) = free (record { values = vs; truths = not x ∷ bs })
do_not vs [] = None

-- the last value, and those before it
abbrev pub with_top : {A : Type 0} → List ValueTree → (List ValueTree → ValueTree → Option A) → Option A
with_top [] k = None
with_top (v ∷ []) k = k [] v
with_top (v ∷ (w ∷ vs)) k = with_top (w ∷ vs) (λ us. k (v ∷ us))

abbrev pub do_same : Held → Option (Counted Held)
do_same h = with_top h.values (λ vs w. with_top vs (λ us v. free (record { values = us; truths = same_value v w ∷ h.truths })))

abbrev pub do_return : ℕ → Held → Option (Counted Held)
do_return base h = with_top h.values (λ vs v. free (record { values = take base vs ++ v ∷ []; truths = h.truths }))

abbrev pub do_forget : ℕ → Held → Option (Counted Held)
do_forget base h = free (record { values = take base h.values; truths = h.truths })

abbrev pub do_below : ℕ → Held → Option (Counted Held)
do_below base h = with_top h.values (λ vs w. with_top vs (λ us v. in_turn (smaller (number_of v) (number_of w)) (λ b. free (record { values = take base us; truths = b ∷ h.truths }))))

module _ (m : Meaning) (n : ℕ) where
  abbrev pub do_term : Scope → TermTree → Held → Option (Counted Held)
  do_term s t h = inside s h (in_turn (evaluate_term (reading_at m n (inputs_of s h.values)) (numbered_values (variables_of s h.values)) t) (with_value h))

  abbrev pub do_terms : Scope → List TermTree → Held → Option (Counted Held)
  do_terms s [] h = free h
  do_terms s (t ∷ ts) h = in_turn (do_term s t h) (do_terms s ts)

  abbrev pub do_symbol : Scope → SymId → ℕ → Held → Option (Counted Held)
  do_symbol s f count h = inside s h (with_last count h.values (λ vs args. in_turn ((reading_at m n (inputs_of s h.values)).value f args) (λ v. free (record { values = vs ++ v ∷ []; truths = h.truths }))))

  -- an atom's truth value, which reads no input
  abbrev pub do_atom : SymId → ℕ → Held → Option (Counted Held)
  do_atom r count h = with_last count h.values (λ vs args. in_turn ((reading_at m n []).truth r args) (λ b. free (record { values = vs; truths = b ∷ h.truths })))

  abbrev pub do_form : Scope → FormTree → Held → Option (Counted Held)
  do_form s f h = inside s h (in_turn (evaluate_form (reading_at m n (inputs_of s h.values)) (numbered_values (variables_of s h.values)) f) (with_truth h))

  abbrev pub do_chain : Scope → Connective → List FormTree → Held → Option (Counted Held)
  do_chain s c [] h = free h
  do_chain s c (f ∷ fs) h = in_turn (do_form s f h) (λ k. in_turn (do_join c k.values k.truths) (do_chain s c fs))

  abbrev pub do_out : Scope → OutTree → Held → Option (Counted Held)
  do_out s o h = inside s h (in_turn (evaluate_out (reading_at m n (inputs_of s h.values)) (numbered_values (variables_of s h.values)) o) (with_value h))

  abbrev pub do_choose : Scope → OutTree → OutTree → List ValueTree → List Bool → Option (Counted Held)
  do_choose s o p vs (b ∷ bs) = do_out s (if b then o else p) (record { values = vs; truths = bs })
  do_choose s o p vs [] = None

  -- what a frame does
  abbrev pub do_frame : Frame → Held → Option (Counted Held)
  do_frame (frame.Term s t) h = do_term s t.now h
  do_frame (frame.Apply s f count rest) h = in_turn (do_terms s rest.now h) (do_symbol s f count)
  do_frame (frame.Form s f) h = do_form s f.now h
  do_frame (frame.Ask s r count rest) h = in_turn (do_terms s rest.now h) (do_atom r count)
  do_frame frame.Same h = do_same h
  do_frame frame.Not h = do_not h.values h.truths
  do_frame (frame.Chain s c rest) h = do_chain s c rest.now h
  do_frame (frame.Join c) h = do_join c h.values h.truths
  do_frame (frame.Out s o) h = do_out s o.now h
  do_frame (frame.Choose s o p) h = do_choose s o.now p.now h.values h.truths
  do_frame (frame.Return base) h = do_return base h
  do_frame (frame.Forget base) h = do_forget base h
  do_frame (frame.Below base) h = do_below base h

  -- what all frames do, the first in front
  abbrev pub do_frames : List Frame → Held → Option (Counted Held)
  do_frames [] h = free h
  do_frames (f ∷ fs) h = in_turn (do_frame f h) (do_frames fs)

-- where a frame opens a term, a formula or an output, or goes through a symbol's arguments
abbrev pub opens : Frame → Bool
opens (frame.Term s t) = true
opens (frame.Apply s f count rest) = true
opens (frame.Form s f) = true
opens (frame.Ask s r count rest) = true
opens (frame.Out s o) = true
opens _ = false
