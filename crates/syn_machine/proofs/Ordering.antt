-- An order: a turn, and its measure on the first half of the values and then on the second stands in its place.
use Rattle.std.proofs.Common.{◌≡◌, ℕ, zero, suc, ◌+◌, ◌-◌, ◌<◌, ◌≤◌, Bool, List, [], ◌∷◌, ◌++◌, Bor, Option, Ok, drop, length, take, refl, sym, ap, ap₂, ◌∙◌, arith}
use Rattle.std.proofs.lemmas.List.{length-append, length-drop, length-take-le, take-append-drop}
use Rattle.syn_term.specs.declared.term.Node.{Node}
use Rattle.syn_term.specs.Terms.{TermTree}
use Rattle.syn_value.specs.declared.tree.ValueTree.{ValueTree}
use Rattle.syn_value.specs.Values.{number_of}
use Rattle.syn_model.specs.Calls.{Meaning, half, numbered_values, reading_at, smaller}
use Rattle.syn_model.specs.Evaluation.{Counted, after, evaluate_term}
use Rattle.syn_model.proofs.DeeperCalls.{term_deeper}
use Rattle.syn_eval.specs.inner.Scopes.{order_at}
use Rattle.syn_eval.proofs.Answers.{Grows, two_grow}
use Rattle.syn_machine.specs.declared.frames.Frame.TheVariants as frame
use Rattle.syn_machine.specs.declared.frames.Scope.TheVariants as scope
use Rattle.syn_machine.specs.declared.frames.Work.{Work}
use Rattle.syn_machine.specs.inner.Frames.{Held, between, do_frames, held, in_turn}
use Rattle.syn_machine.specs.inner.Steps.{Steps, all_of, tell_at}
use Rattle.syn_machine.proofs.CallMoves.{call_moves, measured, order_is}
use Rattle.syn_machine.proofs.Scopes.{holding}
use Rattle.syn_machine.proofs.Turns.{in_turn-in_turn, in_turn-same}

drop_more : (vs us : List ValueTree) (k : ℕ) → drop (length vs + k) (vs ++ us) ≡ drop k us
drop_more [] us k = let e : 0 + k ≡ k = omega arith in ap (λ z. drop z us) e
drop_more (v ∷ vs) us k = let e : suc (length vs) + k ≡ suc (length vs + k) = omega arith in ap (λ z. drop z (v ∷ (vs ++ us))) e ∙ drop_more vs us k

take_it : (xs : List ValueTree) → take (length xs) xs ≡ xs
take_it [] = refl
take_it (x ∷ xs) = ap (λ z. x ∷ z) (take_it xs)

module _ (vs us : List ValueTree) (base middle end h : ℕ) (here : base ≡ length vs) (mid : middle ≡ base + h) (last : end ≡ length (vs ++ us)) where
  first_part : between base middle (vs ++ us) ≡ take h us
  first_part =
      let a : middle - base ≡ h = omega (arith, mid) in
      let b : base ≡ length vs + 0 = omega (arith, here) in
      ap₂ (λ x y. take x (drop y (vs ++ us))) a b ∙ ap (take h) (drop_more vs us 0)

  second_part : between middle end (vs ++ us) ≡ drop h us
  second_part =
      let sum : length (vs ++ us) ≡ length vs + length us = length-append vs us in
      let rest : length (drop h us) ≡ length us - h = length-drop h us in
      let a : end - middle ≡ length (drop h us) = omega (arith, last, sum, rest, mid, here) in
      let b : middle ≡ length vs + h = omega (arith, mid, here) in
      ap₂ (λ x y. take x (drop y (vs ++ us))) a b ∙ (ap (take (length (drop h us))) (drop_more vs us h) ∙ take_it (drop h us))

module _ (before next : Work) (base : ℕ) (le : base ≤ length before.values) (m : Meaning) (left : ℕ) (some : 0 < left) (t : TermTree) where
  abbrev front : List ValueTree
  front = take base before.values

  abbrev args : List ValueTree
  args = drop base before.values

  whole : front ++ args ≡ before.values
  whole = take-append-drop base before.values

  abbrev first_at : ℕ → Option (Counted ValueTree)
  first_at n = evaluate_term (reading_at m n []) (numbered_values (take (half (length args)) args)) t

  abbrev second_at : ℕ → Option (Counted ValueTree)
  second_at n = evaluate_term (reading_at m n []) (numbered_values (drop (half (length args)) args)) t

  abbrev compared : ValueTree → ValueTree → Option (Counted Bool)
  compared v w = smaller (number_of v) (number_of w)

  abbrev both_at : ℕ → Option (Counted Bool)
  both_at n = in_turn (first_at n) (λ v. in_turn (second_at n) (compared v))

  both_grow : Grows both_at
  both_grow = two_grow first_at (λ v n. in_turn (second_at n) (compared v)) (λ n k c e. term_deeper m n k [] (numbered_values (take (half (length args)) args)) t c e)
      (λ v. two_grow second_at (λ w n. compared v w) (λ n k c e. term_deeper m n k [] (numbered_values (drop (half (length args)) args)) t c e) (λ w n k c e. e))

  abbrev rest_at : ℕ → Bool → Option (Counted Held)
  rest_at n b = do_frames m n before.frames (holding front (b ∷ before.truths))

  regrouped : (n : ℕ) → in_turn (first_at n) (λ v. in_turn (second_at n) (λ w. in_turn (compared v w) (rest_at n))) ≡ in_turn (both_at n) (rest_at n)
  regrouped n = sym (in_turn-in_turn (first_at n) (λ v. in_turn (second_at n) (compared v)) (rest_at n)
      ∙ in_turn-same (first_at n) (λ v. in_turn (in_turn (second_at n) (compared v)) (rest_at n)) (λ v. in_turn (second_at n) (λ w. in_turn (compared v w) (rest_at n))) (λ v. in_turn-in_turn (second_at n) (compared v) (rest_at n)))

  pub order_enters : (c d : Bor Node) (middle end : ℕ) → c.now ≡ t → d.now ≡ t → middle ≡ base + half (length args) → end ≡ length before.values → next.values ≡ before.values → next.truths ≡ before.truths
      → next.frames ≡ frame.Term (scope.Variables base middle) c ∷ (frame.Term (scope.Variables middle end) d ∷ (frame.Below base ∷ before.frames))
      → Steps left (λ n. in_turn (tell_at base (held before) (order_at m t args n)) (do_frames m n before.frames)) (all_of m next) (Ok 1)
  order_enters c d middle end is are mid last v b fs =
      let here : base ≡ length front = sym (length-take-le base before.values le) in
      let ends : end ≡ length (front ++ args) = last ∙ ap length (sym whole) in
      let size : length args ≡ length before.values - base = length-drop base before.values in
      let small : half (length args) ≤ length args = half_small (length args) in
      let inside_first : middle ≤ length (front ++ args) = omega (arith, mid, ends, last, size, small, le) in
      let inside_second : end ≤ length (front ++ args) = omega (arith, ends) in (
        omega (arith, some),
        call_moves m before.frames (λ x. holding front (x ∷ before.truths)) (order_at m t args) both_at refl (λ n. ap (after 1) (measured (first_at n) (second_at n))) both_grow (all_of m next)
            (λ n. (λ i. do_frames m n (fs i) (holding ((v ∙ sym whole) i) (b i)))
            ∙ (order_is m n before.frames base front args before.truths here (scope.Variables base middle) (scope.Variables middle end) inside_first inside_second t c d is are
            ∙ ((λ i. in_turn (evaluate_term (reading_at m n []) (numbered_values (first_part front args base middle end (half (length args)) here mid ends i)) t)
            (λ v. in_turn (evaluate_term (reading_at m n []) (numbered_values (second_part front args base middle end (half (length args)) here mid ends i)) t) (λ w. in_turn (compared v w) (rest_at n))))
            ∙ regrouped n))),
      )
    where
      half_small : (n : ℕ) → half n ≤ n
      half_small zero = omega arith
      half_small (suc zero) = omega arith
      half_small (suc (suc n)) = let h = half_small n in omega (arith, h)
