-- The next argument of a symbol, or the symbol itself; and from each frame to a step.
use Rattle.std.proofs.Common.{◌≡◌, ℕ, List, [], ◌∷◌, Bor, Option, Result, Ok, sym, ap, subst, ◌∙◌}
use Rattle.syn_term.specs.declared.sorts.SymId.{SymId}
use Rattle.syn_term.specs.declared.term.Node.{Node}
use Rattle.syn_term.specs.Terms.{TermTree}
use Rattle.syn_model.specs.Calls.{Meaning}
use Rattle.syn_model.specs.Evaluation.{Counted}
use Rattle.syn_eval.specs.declared.errors.EvalError.{EvalError}
use Rattle.syn_machine.specs.declared.frames.Frame.{Frame}
use Rattle.syn_machine.specs.declared.frames.Frame.TheVariants as frame
use Rattle.syn_machine.specs.declared.frames.Scope.{Scope}
use Rattle.syn_machine.specs.declared.frames.Work.{Work}
use Rattle.syn_machine.specs.inner.Frames.{Held, do_atom, do_frames, do_symbol, do_term, do_terms, held, in_turn}
use Rattle.syn_machine.specs.inner.Steps.{Does, DoesIn, StepsFrom, all_of, with_frame}
use Rattle.syn_machine.specs.inner.Weights.{GetsLighter, frame_weight}
use Rattle.syn_machine.proofs.CallMoves.{steps_same}
use Rattle.syn_machine.proofs.Opening.{opens_two}
use Rattle.syn_machine.proofs.Scopes.{holding}
use Rattle.syn_machine.proofs.Turns.{free-in_turn, in_turn-in_turn}

module _ (before next : Work) (m : Meaning) (left : ℕ) (s : Scope) (f : SymId) (count : ℕ) (rest : Bor (List Node)) where
  none_left : (last : ℕ → Held → Option (Counted Held)) → rest.now ≡ [] → (n : ℕ) → in_turn (do_terms m n s rest.now (held before)) (last n) ≡ last n (held before)
  none_left last e n = ap (λ (z : List TermTree). in_turn (do_terms m n s z (held before)) (last n)) e ∙ free-in_turn (held before) (last n)

  -- all arguments are there
  pub symbol_next : rest.now ≡ [] → (r : Result ℕ EvalError) → StepsFrom m left (λ n. do_symbol m n s f count) before next r → DoesIn m left (frame.Apply s f count rest) before next r
  symbol_next e r h = steps_same left (with_frame m (frame.Apply s f count rest) before) (λ n. in_turn (do_symbol m n s f count (held before)) (do_frames m n before.frames)) (all_of m next)
      (λ n. ap (λ (z : Option (Counted Held)). in_turn z (do_frames m n before.frames)) (none_left (λ n. do_symbol m n s f count) e n)) r h

  pub atom_next : rest.now ≡ [] → (r : Result ℕ EvalError) → StepsFrom m left (λ n. do_atom m n f count) before next r → DoesIn m left (frame.Ask s f count rest) before next r
  atom_next e r h = steps_same left (with_frame m (frame.Ask s f count rest) before) (λ n. in_turn (do_atom m n f count (held before)) (do_frames m n before.frames)) (all_of m next)
      (λ n. ap (λ (z : Option (Counted Held)). in_turn z (do_frames m n before.frames)) (none_left (λ n. do_atom m n f count) e n)) r h

  one_more : (last : Meaning → ℕ → Held → Option (Counted Held)) (t : Bor Node) (more : Bor (List Node)) → rest.now ≡ t.now ∷ more.now → next.values ≡ before.values → next.truths ≡ before.truths → (k : Meaning) (n : ℕ)
      → in_turn (do_terms k n s rest.now (held before)) (last k n) ≡ in_turn (do_term k n s t.now (held next)) (λ x. in_turn (do_terms k n s more.now x) (last k n))
  one_more last t more e v b k n =
      ap (λ (z : List TermTree). in_turn (do_terms k n s z (held before)) (last k n)) e
      ∙ (in_turn-in_turn (do_term k n s t.now (held before)) (do_terms k n s more.now) (last k n)
      ∙ (λ i. in_turn (do_term k n s t.now (holding (sym v i) (sym b i))) (λ x. in_turn (do_terms k n s more.now x) (last k n))))

  -- the next one
  pub argument_does : (t : Bor Node) (more : Bor (List Node)) → rest.now ≡ t.now ∷ more.now → next.values ≡ before.values → next.truths ≡ before.truths → next.frames ≡ frame.Term s t ∷ (frame.Apply s f count more ∷ before.frames) → DoesIn m left (frame.Apply s f count rest) before next (Ok 0)
  argument_does t more e v b fs = opens_two (frame.Apply s f count rest) before next (frame.Term s t) (frame.Apply s f count more) (one_more (λ k n. do_symbol k n s f count) t more e v b) fs m left

  pub asked_does : (t : Bor Node) (more : Bor (List Node)) → rest.now ≡ t.now ∷ more.now → next.values ≡ before.values → next.truths ≡ before.truths → next.frames ≡ frame.Term s t ∷ (frame.Ask s f count more ∷ before.frames) → DoesIn m left (frame.Ask s f count rest) before next (Ok 0)
  asked_does t more e v b fs = opens_two (frame.Ask s f count rest) before next (frame.Term s t) (frame.Ask s f count more) (one_more (λ k n. do_atom k n f count) t more e v b) fs m left

-- a frame that is known
module _ (f g : Frame) (is : f ≡ g) (m : Meaning) (left : ℕ) (before next : Work) (r : Result ℕ EvalError) where
  pub any_does : Does g before next r → DoesIn m left f before next r
  any_does h = subst (λ z. DoesIn m left z before next r) (sym is) (h m left)

  pub one_does : DoesIn m left g before next r → DoesIn m left f before next r
  one_does h = subst (λ z. DoesIn m left z before next r) (sym is) h

  pub any_lighter : GetsLighter m (frame_weight g) before next r → GetsLighter m (frame_weight f) before next r
  any_lighter h = subst (λ z. GetsLighter m (frame_weight z) before next r) (sym is) h

-- the same whatever symbols mean and however many turns are left
module _ (f g : Frame) (is : f ≡ g) (before next : Work) (r : Result ℕ EvalError) where
  pub known_does : Does g before next r → Does f before next r
  known_does h = subst (λ z. Does z before next r) (sym is) h

  pub known_lighter : ((m : Meaning) → GetsLighter m (frame_weight g) before next r) → (m : Meaning) → GetsLighter m (frame_weight f) before next r
  known_lighter h m = subst (λ z. GetsLighter m (frame_weight z) before next r) (sym is) (h m)
