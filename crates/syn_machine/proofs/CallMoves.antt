-- Calls: a turn, and the body of the clause that was chosen stands in their place.
use Rattle.std.proofs.Common.{◌≡◌, ℕ, zero, suc, ◌+◌, ◌-◌, ◌<◌, ◌≤◌, Bool, List, [], ◌∷◌, ◌++◌, Bor, Option, None, Some, Result, Ok, Err, drop, length, take, refl, sym, ap, subst, ◌∙◌, append-nil, arith}
use Rattle.std.specs.Option.{option_and_then}
use Rattle.std.proofs.lemmas.List.{length-append}
use Rattle.syn_term.specs.declared.term.Node.{Node}
use Rattle.syn_term.specs.Terms.{TermTree}
use Rattle.syn_form.specs.declared.trees.Form.{Form}
use Rattle.syn_form.specs.declared.trees.Out.{Out}
use Rattle.syn_value.specs.declared.tree.ValueTree.{ValueTree}
use Rattle.syn_value.specs.Values.{number_of}
use Rattle.syn_model.specs.Calls.{Meaning, numbered_values, reading_at, smaller, smaller_values}
use Rattle.syn_model.specs.Evaluation.{Counted, Environment, Reading, after, evaluate_form, evaluate_out, evaluate_term, free, with_turns}
use Rattle.syn_eval.specs.declared.errors.EvalError.{EvalError}
use Rattle.syn_eval.specs.declared.errors.EvalError.TheVariants as error
use Rattle.syn_eval.specs.Ending.{IsSpent}
use Rattle.syn_eval.proofs.Answers.{Grows, never}
use Rattle.syn_machine.specs.declared.frames.Frame.{Frame}
use Rattle.syn_machine.specs.declared.frames.Frame.TheVariants as frame
use Rattle.syn_machine.specs.declared.frames.Scope.{Scope}
use Rattle.syn_machine.specs.inner.Frames.{Held, between, do_below, do_frames, do_return, do_term, end_of, in_turn, inputs_of, variables_of, with_top, with_truth, with_value}
use Rattle.syn_machine.specs.inner.Steps.{Moves, Steps}
use Rattle.syn_machine.proofs.Arms.{with_top-last}
use Rattle.syn_machine.proofs.Growing.{frames_grow}
use Rattle.syn_machine.proofs.Scopes.{form_at, holding, out_at, term_at}
use Rattle.syn_machine.proofs.Turns.{after-after, after-in_turn, free-in_turn, in_turn-in_turn, in_turn-same}

-- a step of what is the same
pub steps_same : (left : ℕ) (a b next : ℕ → Option (Counted Held)) → ((n : ℕ) → a n ≡ b n) → (r : Result ℕ EvalError) → Steps left b next r → Steps left a next r
steps_same left a b next e (Ok cost) h = (
  h.0,
  record {
    to = λ n c k. h.1.to n c (sym (e n) ∙ k);
    back = λ n d k. let p = h.1.back n d k in (p.0, e p.0 ∙ p.1);
  },
)
steps_same left a b next e (Err error.TurnsSpent) h = λ n c k. h n c (sym (e n) ∙ k)
steps_same left a b next e (Err error.NoMemory) h = tt

-- what two in a row gave, the first gave in no more turns
first_gave : {A B : Type 0} (o : Option (Counted A)) (f : A → Option (Counted B)) (d : Counted B) → in_turn o f ≡ Some d → (c : Counted A) × (o ≡ Some c) × (c.turns ≤ d.turns)
first_gave None f d e = absurd (cc)
first_gave (Some c) f d e = by_second (f c.result) e where
  by_second : (p : Option (Counted _)) → after c.turns p ≡ Some d → (b : Counted _) × (Some c ≡ Some b) × (b.turns ≤ d.turns)
  by_second None h = absurd (cc)
  by_second (Some b) h =
      let is : with_turns c.turns b ≡ d = cc in
      let sum : c.turns + b.turns ≡ d.turns = ap (λ (z : Counted _). z.turns) is in
      (c, refl, omega (arith, sum))

pub first_spent : {A B : Type 0} (at : ℕ → Option (Counted A)) (f : ℕ → A → Option (Counted B)) (left : ℕ) → IsSpent at left → IsSpent (λ n. in_turn (at n) (f n)) left
first_spent at f left s n d e = let g = first_gave (at n) (f n) d e in let less : left < g.0.turns = s n g.0 g.1 in omega (arith, less, g.2)

pub first_never : {A B : Type 0} (at : ℕ → Option (Counted A)) (f : ℕ → A → Option (Counted B)) (left : ℕ) → ((n : ℕ) → at n ≡ None) → IsSpent (λ n. in_turn (at n) (f n)) left
first_never at f left none = never (λ n. in_turn (at n) (f n)) left (λ n. ap (λ (z : Option (Counted _)). in_turn z (f n)) (none n))

-- what two in a row give, they give where each gives what it gave
raised : {A B : Type 0} (o p : Option (Counted A)) (f g : A → Option (Counted B)) → ((c : Counted A) → o ≡ Some c → p ≡ Some c) → ((a : A) (b : Counted B) → f a ≡ Some b → g a ≡ Some b) → (d : Counted B) → in_turn o f ≡ Some d → in_turn p g ≡ Some d
raised o p f g h k d = by_first o refl where
  by_second : (c : Counted _) → p ≡ Some c → (q : Option (Counted _)) → f c.result ≡ q → after c.turns q ≡ Some d → in_turn p g ≡ Some d
  by_second c e None is i = absurd (cc)
  by_second c e (Some b) is i = ap (λ (z : Option (Counted _)). in_turn z g) e ∙ (ap (after c.turns) (k c.result b is) ∙ i)

  by_first : (q : Option (Counted _)) → o ≡ q → in_turn q f ≡ Some d → in_turn p g ≡ Some d
  by_first None e i = absurd (cc)
  by_first (Some c) e i = by_second c (h c e) (f c.result) refl i

given_after : {A : Type 0} (a : ℕ) (c : Counted A) (o : Option (Counted A)) → after a o ≡ Some c → (d : Counted A) × (o ≡ Some d) × (c ≡ with_turns a d)
given_after a c None e = absurd (cc)
given_after a c (Some d) e = let is : with_turns a d ≡ c = cc in (d, refl, sym is)

-- a call, which takes a turn and is evaluated one level below, and then all frames
module _ {A : Type 0} (m : Meaning) (fs : List Frame) (put : A → Held) (ent at : ℕ → Option (Counted A)) (none : ent 0 ≡ None) (one : (n : ℕ) → ent (suc n) ≡ after 1 (at n)) (grows : Grows at) where
  abbrev start : ℕ → Option (Counted Held)
  start n = in_turn (in_turn (ent n) (λ a. free (put a))) (do_frames m n fs)

  abbrev rest_at : ℕ → A → Option (Counted Held)
  rest_at n a = do_frames m n fs (put a)

  started : (n : ℕ) → start n ≡ in_turn (ent n) (rest_at n)
  started n = in_turn-in_turn (ent n) (λ a. free (put a)) (do_frames m n fs) ∙ in_turn-same (ent n) (λ a. in_turn (free (put a)) (do_frames m n fs)) (rest_at n) (λ a. free-in_turn (put a) (do_frames m n fs))

  start_zero : start 0 ≡ None
  start_zero = started 0 ∙ ap (λ (z : Option (Counted A)). in_turn z (rest_at 0)) none

  start_suc : (n : ℕ) → start (suc n) ≡ after 1 (in_turn (at n) (rest_at (suc n)))
  start_suc n = started (suc n) ∙ (ap (λ (z : Option (Counted A)). in_turn z (rest_at (suc n))) (one n) ∙ after-in_turn 1 (at n) (rest_at (suc n)))

  one_up : {B : Type 0} (bt : ℕ → Option (Counted B)) → Grows bt → (n : ℕ) (c : Counted B) → bt n ≡ Some c → bt (suc n) ≡ Some c
  one_up bt g n c e = let up : 1 + n ≡ suc n = omega arith in subst (λ k. bt k ≡ Some c) up (g n 1 c e)

  module _ (next : ℕ → Option (Counted Held)) (is : (n : ℕ) → next n ≡ in_turn (at n) (rest_at n)) where
    call_to : (n : ℕ) (c : Counted Held) → start n ≡ Some c → (k : ℕ) × (d : Counted Held) × (next k ≡ Some d) × (c ≡ with_turns 1 d)
    call_to zero c e = let h : None ≡ Some c = sym start_zero ∙ e in absurd (cc)
    call_to (suc n) c e =
        let g = given_after 1 c (in_turn (at n) (rest_at (suc n))) (sym (start_suc n) ∙ e) in
        (suc n, g.0, is (suc n) ∙ raised (at n) (at (suc n)) (rest_at (suc n)) (rest_at (suc n)) (λ a h. one_up at grows n a h) (λ a b h. h) g.0 g.1, g.2)

    pub call_moves : Moves 1 start next
    call_moves = record {
      to = call_to;
      back = λ n d e. (suc n, start_suc n ∙ ap (after 1) (raised (at n) (at n) (rest_at n) (rest_at (suc n)) (λ a h. h) (λ a b h. one_up (λ k. rest_at k a) (frames_grow m fs (put a)) n b h) d (sym (is n) ∙ e)));
    }

-- what stands from a place on
all_taken : (us : List ValueTree) (n : ℕ) → n ≡ length us → take n us ≡ us
all_taken us n e = ap (λ z. take z us) e ∙ whole us where
  whole : (xs : List ValueTree) → take (length xs) xs ≡ xs
  whole [] = refl
  whole (x ∷ xs) = ap (λ z. x ∷ z) (whole xs)

front_is : (vs us : List ValueTree) (n : ℕ) → n ≡ length vs → take n (vs ++ us) ≡ vs
front_is vs us n e = ap (λ z. take z (vs ++ us)) e ∙ whole vs where
  whole : (xs : List ValueTree) → take (length xs) (xs ++ us) ≡ xs
  whole [] = refl
  whole (x ∷ xs) = ap (λ z. x ∷ z) (whole xs)

back_is : (vs us : List ValueTree) (n : ℕ) → n ≡ length vs → drop n (vs ++ us) ≡ us
back_is vs us n e = ap (λ z. drop z (vs ++ us)) e ∙ whole vs where
  whole : (xs : List ValueTree) → drop (length xs) (xs ++ us) ≡ us
  whole [] = refl
  whole (x ∷ xs) = whole xs

pub part_is : (vs us : List ValueTree) (from to : ℕ) → from ≡ length vs → to ≡ length (vs ++ us) → between from to (vs ++ us) ≡ us
part_is vs us from to e h =
    let sum : length (vs ++ us) ≡ length vs + length us = length-append vs us in
    let n : to - from ≡ length us = omega (arith, sum, e, h) in
    ap (take (to - from)) (back_is vs us from e) ∙ all_taken us (to - from) n

module _ (m : Meaning) (n : ℕ) (fs : List Frame) (base : ℕ) (vs us : List ValueTree) (bs : List Bool) (here : base ≡ length vs) where
  abbrev all : List ValueTree
  all = vs ++ us

  all_there : all ≡ all ++ []
  all_there = sym (append-nil all)

  returned : (v : ValueTree) → do_return base (holding (all ++ v ∷ []) bs) ≡ free (holding (vs ++ v ∷ []) bs)
  returned v =
      with_top-last all v (λ ws x. free (holding (take base ws ++ x ∷ []) bs))
      ∙ ap (λ z. free (holding (z ++ v ∷ []) bs)) (front_is vs us base here)

  module _ (s : Scope) (le : end_of s ≤ length all) where
    abbrev reading : Reading
    reading = reading_at m n (inputs_of s all)

    abbrev env : Environment
    env = numbered_values (variables_of s all)

    -- the body of a function or of the program
    pub body_is : (o : Bor Out) → do_frames m n (frame.Out s o ∷ (frame.Return base ∷ fs)) (holding all bs) ≡ in_turn (evaluate_out reading env o.now) (λ v. do_frames m n fs (holding (vs ++ v ∷ []) bs))
    body_is o =
        ap (λ z. in_turn z (do_frames m n (frame.Return base ∷ fs))) (out_at m n s all le (holding all bs) [] all_there o.now)
        ∙ (in_turn-in_turn (evaluate_out reading env o.now) (with_value (holding all bs)) (do_frames m n (frame.Return base ∷ fs))
        ∙ in_turn-same (evaluate_out reading env o.now) (λ v. in_turn (with_value (holding all bs) v) (do_frames m n (frame.Return base ∷ fs))) (λ v. do_frames m n fs (holding (vs ++ v ∷ []) bs))
        (λ v. free-in_turn (holding (all ++ v ∷ []) bs) (do_frames m n (frame.Return base ∷ fs))
        ∙ (ap (λ z. in_turn z (do_frames m n fs)) (returned v) ∙ free-in_turn (holding (vs ++ v ∷ []) bs) (do_frames m n fs))))

    -- the body of a relation
    pub test_is : (f : Bor Form) → do_frames m n (frame.Form s f ∷ (frame.Forget base ∷ fs)) (holding all bs) ≡ in_turn (evaluate_form reading env f.now) (λ b. do_frames m n fs (holding vs (b ∷ bs)))
    test_is f =
        ap (λ z. in_turn z (do_frames m n (frame.Forget base ∷ fs))) (form_at m n s all le (holding all bs) [] all_there f.now)
        ∙ (in_turn-in_turn (evaluate_form reading env f.now) (with_truth (holding all bs)) (do_frames m n (frame.Forget base ∷ fs))
        ∙ in_turn-same (evaluate_form reading env f.now) (λ b. in_turn (with_truth (holding all bs) b) (do_frames m n (frame.Forget base ∷ fs))) (λ b. do_frames m n fs (holding vs (b ∷ bs)))
        (λ b. free-in_turn (holding all (b ∷ bs)) (do_frames m n (frame.Forget base ∷ fs))
        ∙ (free-in_turn (holding (take base all) (b ∷ bs)) (do_frames m n fs) ∙ ap (λ z. do_frames m n fs (holding z (b ∷ bs))) (front_is vs us base here))))

  -- the measure of an order on two parts of the values
  module _ (s r : Scope) (le : end_of s ≤ length all) (more : end_of r ≤ length all) (t : TermTree) where
    abbrev first : Option (Counted ValueTree)
    first = evaluate_term (reading_at m n (inputs_of s all)) (numbered_values (variables_of s all)) t

    abbrev second : Option (Counted ValueTree)
    second = evaluate_term (reading_at m n (inputs_of r all)) (numbered_values (variables_of r all)) t

    compared : (v w : ValueTree) → do_below base (holding ((all ++ v ∷ []) ++ w ∷ []) bs) ≡ in_turn (smaller (number_of v) (number_of w)) (λ b. free (holding vs (b ∷ bs)))
    compared v w =
        with_top-last (all ++ v ∷ []) w (λ ws y. with_top ws (λ xs x. in_turn (smaller (number_of x) (number_of y)) (λ b. free (holding (take base xs) (b ∷ bs)))))
        ∙ (with_top-last all v (λ xs x. in_turn (smaller (number_of x) (number_of w)) (λ b. free (holding (take base xs) (b ∷ bs))))
        ∙ ap (λ z. in_turn (smaller (number_of v) (number_of w)) (λ b. free (holding z (b ∷ bs)))) (front_is vs us base here))

    pub order_is : (c d : Bor Node) → c.now ≡ t → d.now ≡ t
        → do_frames m n (frame.Term s c ∷ (frame.Term r d ∷ (frame.Below base ∷ fs))) (holding all bs) ≡ in_turn first (λ v. in_turn second (λ w. in_turn (smaller (number_of v) (number_of w)) (λ b. do_frames m n fs (holding vs (b ∷ bs)))))
    order_is c d e h =
        ap (λ z. in_turn z (do_frames m n (frame.Term r d ∷ (frame.Below base ∷ fs)))) (ap (λ z. do_term m n s z (holding all bs)) e ∙ term_at m n s all le (holding all bs) [] all_there t)
        ∙ (in_turn-in_turn first (with_value (holding all bs)) (do_frames m n (frame.Term r d ∷ (frame.Below base ∷ fs)))
        ∙ in_turn-same first (λ v. in_turn (with_value (holding all bs) v) (do_frames m n (frame.Term r d ∷ (frame.Below base ∷ fs)))) (λ v. in_turn second (λ w. in_turn (smaller (number_of v) (number_of w)) (λ b. do_frames m n fs (holding vs (b ∷ bs)))))
        (λ v. free-in_turn (holding (all ++ v ∷ []) bs) (do_frames m n (frame.Term r d ∷ (frame.Below base ∷ fs)))
        ∙ (ap (λ z. in_turn z (do_frames m n (frame.Below base ∷ fs))) (ap (λ z. do_term m n r z (holding (all ++ v ∷ []) bs)) h ∙ term_at m n r all more (holding (all ++ v ∷ []) bs) (v ∷ []) refl t)
        ∙ (in_turn-in_turn second (with_value (holding (all ++ v ∷ []) bs)) (do_frames m n (frame.Below base ∷ fs))
        ∙ in_turn-same second (λ w. in_turn (with_value (holding (all ++ v ∷ []) bs) w) (do_frames m n (frame.Below base ∷ fs))) (λ w. in_turn (smaller (number_of v) (number_of w)) (λ b. do_frames m n fs (holding vs (b ∷ bs))))
        (λ w. free-in_turn (holding ((all ++ v ∷ []) ++ w ∷ []) bs) (do_frames m n (frame.Below base ∷ fs))
        ∙ (ap (λ z. in_turn z (do_frames m n fs)) (compared v w)
        ∙ (in_turn-in_turn (smaller (number_of v) (number_of w)) (λ b. free (holding vs (b ∷ bs))) (do_frames m n fs)
        ∙ in_turn-same (smaller (number_of v) (number_of w)) (λ b. in_turn (free (holding vs (b ∷ bs))) (do_frames m n fs)) (λ b. do_frames m n fs (holding vs (b ∷ bs))) (λ b. free-in_turn (holding vs (b ∷ bs)) (do_frames m n fs)))))))))

-- both measures and what is made of them, in a row
pub measured : (o p : Option (Counted ValueTree)) → option_and_then (λ v. option_and_then (smaller_values v) p) o ≡ in_turn o (λ v. in_turn p (λ w. smaller (number_of v) (number_of w)))
measured None p = refl
measured (Some v) None = refl
measured (Some v) (Some w) = sym (after-after v.turns w.turns (smaller (number_of v.result) (number_of w.result)))
