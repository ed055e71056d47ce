-- The frame that compares two numbers: the last two values, and those that are let go of.
use Rattle.std.proofs.Common.{◌≡◌, ℕ, Bool, List, [], ◌∷◌, ◌++◌, Option, None, Some, Ok, Err, nat_lt, take, refl, sym, ap, ap₂, ◌∙◌}
use Rattle.syn_value.specs.declared.tree.ValueTree.{ValueTree}
use Rattle.syn_value.specs.Values.{number_of}
use Rattle.syn_model.specs.Calls.{smaller}
use Rattle.syn_model.specs.Evaluation.{Counted, free}
use Rattle.syn_eval.specs.declared.errors.EvalError.TheVariants as error
use Rattle.syn_machine.specs.declared.frames.Frame.TheVariants as frame
use Rattle.syn_machine.specs.declared.frames.Work.{Work}
use Rattle.syn_machine.specs.inner.Frames.{Held, do_below, in_turn, with_top}
use Rattle.syn_machine.specs.inner.Steps.{Does, TakesNumber}
use Rattle.syn_machine.proofs.Arms.{with_top-last}
use Rattle.syn_machine.proofs.Opening.{has_ended, is_stuck}
use Rattle.syn_machine.proofs.Turns.{free-in_turn}

abbrev holding : List ValueTree → List Bool → Held
holding vs bs = record { values = vs; truths = bs }

-- a list is empty, or has a last item
pub with_top_none : {A : Type 0} (vs : List ValueTree) (k : List ValueTree → ValueTree → Option A) → ((us : List ValueTree) (v : ValueTree) → vs ≡ us ++ v ∷ [] → k us v ≡ None) → with_top vs k ≡ None
with_top_none [] k h = refl
with_top_none (v ∷ []) k h = h [] v refl
with_top_none (v ∷ (w ∷ vs)) k h = with_top_none (w ∷ vs) (λ us x. k (v ∷ us) x) (λ us x e. h (v ∷ us) x (ap (λ z. v ∷ z) e))

-- what is told of the number before the last
abbrev told : ℕ → List Bool → ValueTree → List ValueTree → ValueTree → Option (Counted Held)
told base bs w us v = in_turn (smaller (number_of v) (number_of w)) (λ b. free (holding (take base us) (b ∷ bs)))

no_number : (base : ℕ) (bs : List Bool) (w : ValueTree) (us : List ValueTree) (v : ValueTree) → number_of w ≡ None → told base bs w us v ≡ None
no_number base bs w us v e = by_first (number_of v) where
  by_first : (o : Option ℕ) → in_turn (smaller o (number_of w)) (λ b. free (holding (take base us) (b ∷ bs))) ≡ None
  by_first None = refl
  by_first (Some k) = ap (λ (z : Option ℕ). in_turn (smaller (Some k) z) (λ b. free (holding (take base us) (b ∷ bs)))) e

module _ (before mid next : Work) (base : ℕ) where
  pub below_first : TakesNumber before mid None → Does (frame.Below base) before next (Err error.TurnsSpent)
  below_first h =
      is_stuck (frame.Below base) before next
      (λ m n. with_top_none before.values (λ vs w. with_top vs (λ us v. in_turn (smaller (number_of v) (number_of w)) (λ b. free (holding (take base us) (b ∷ before.truths)))))
      (λ vs w e. with_top_none vs (λ us v. in_turn (smaller (number_of v) (number_of w)) (λ b. free (holding (take base us) (b ∷ before.truths)))) (λ us v f. no_number base before.truths w us v (h vs w e))))

  pub below_second : (k : ℕ) → TakesNumber before mid (Some k) → TakesNumber mid next None → Does (frame.Below base) before next (Err error.TurnsSpent)
  below_second k g h =
      is_stuck (frame.Below base) before next
      (λ m n. ap (λ (z : List ValueTree). do_below base (holding z before.truths)) g.1
      ∙ (with_top-last mid.values g.0 (λ vs w. with_top vs (λ us v. in_turn (smaller (number_of v) (number_of w)) (λ b. free (holding (take base us) (b ∷ before.truths)))))
      ∙ with_top_none mid.values (λ us v. in_turn (smaller (number_of v) (number_of g.0)) (λ b. free (holding (take base us) (b ∷ before.truths))))
      (λ us v e. ap (λ (z : Option ℕ). in_turn (smaller z (number_of g.0)) (λ b. free (holding (take base us) (b ∷ before.truths)))) (h us v e))))

  module _ (after : Work) where
    pub below_both : (k l : ℕ) (b : Bool) → TakesNumber before mid (Some k) → TakesNumber mid next (Some l) → b ≡ nat_lt l k
        → after.values ≡ take base next.values → after.truths ≡ b ∷ next.truths → after.frames ≡ next.frames → Does (frame.Below base) before after (Ok 0)
    below_both k l b g h is w t fs =
        has_ended (frame.Below base) before after
        (λ m n. ap (λ (z : List ValueTree). do_below base (holding z before.truths)) (g.1 ∙ ap (λ (z : List ValueTree). z ++ g.0 ∷ []) h.1)
        ∙ (with_top-last (next.values ++ h.0 ∷ []) g.0 (λ vs w. with_top vs (λ us v. in_turn (smaller (number_of v) (number_of w)) (λ b. free (holding (take base us) (b ∷ before.truths)))))
        ∙ (with_top-last next.values h.0 (λ us v. in_turn (smaller (number_of v) (number_of g.0)) (λ b. free (holding (take base us) (b ∷ before.truths))))
        ∙ (ap₂ (λ (x y : Option ℕ). in_turn (smaller x y) (λ b. free (holding (take base next.values) (b ∷ before.truths)))) h.2 g.2
        ∙ (free-in_turn (nat_lt l k) (λ b. free (holding (take base next.values) (b ∷ before.truths)))
        ∙ ap₂ (λ x y. free (holding x y)) (sym w) (ap₂ (λ (x : Bool) (y : List Bool). x ∷ y) (sym is) (sym (h.4 ∙ g.4)) ∙ sym t)))))) (fs ∙ (h.3 ∙ g.3))
