-- Frames that end at once, and those that put others in their place: what the code does is what they mean.
use Rattle.std.proofs.Common.{◌≡◌, ◌↔◌, ℕ, IsTrue, Bool, true, false, not, List, [], ◌∷◌, ◌++◌, Bor, Option, Ok, Err, if◌then◌else◌, take, refl, sym, ap, ap₂, ◌∙◌}
use Rattle.syn_form.specs.declared.trees.Out.{Out}
use Rattle.syn_value.specs.declared.tree.ValueTree.{ValueTree}
use Rattle.syn_value.specs.Values.{same_value}
use Rattle.syn_value.proofs.SameValues.{same_value-is}
use Rattle.syn_model.specs.Evaluation.{Counted, free}
use Rattle.syn_eval.specs.declared.errors.EvalError.TheVariants as error
use Rattle.syn_machine.specs.declared.frames.Connective.{Connective}
use Rattle.syn_machine.specs.declared.frames.Frame.TheVariants as frame
use Rattle.syn_machine.specs.declared.frames.Scope.{Scope}
use Rattle.syn_machine.specs.declared.frames.Work.{Work}
use Rattle.syn_machine.specs.inner.Frames.{Held, do_choose, do_join, do_not, do_out, do_return, do_same, joined_by, with_top}
use Rattle.syn_machine.specs.inner.Steps.{Does}
use Rattle.syn_machine.proofs.Opening.{has_ended, is_stuck, opens_one}

abbrev holding : List ValueTree → List Bool → Option (Counted Held)
holding vs bs = free (record { values = vs; truths = bs })

abbrev keeping : List ValueTree → List Bool → Held
keeping vs bs = record { values = vs; truths = bs }

-- the last value
pub with_top-last : {A : Type 0} (vs : List ValueTree) (v : ValueTree) (k : List ValueTree → ValueTree → Option A) → with_top (vs ++ v ∷ []) k ≡ k vs v
with_top-last [] v k = refl
with_top-last (x ∷ []) v k = refl
with_top-last (x ∷ (y ∷ ys)) v k = with_top-last (y ∷ ys) v (λ us. k (x ∷ us))

module _ (before next : Work) where
  pub negate_does : (x : Bool) (bs : List Bool) → before.truths ≡ x ∷ bs → next.truths ≡ not x ∷ bs → next.values ≡ before.values → next.frames ≡ before.frames → Does frame.Not before next (Ok 0)
  negate_does x bs e t v fs = has_ended frame.Not before next (λ m n. ap (do_not before.values) e ∙ ap₂ holding (sym v) (sym t)) fs

  pub negate_stuck : before.truths ≡ [] → Does frame.Not before next (Err error.TurnsSpent)
  negate_stuck e = is_stuck frame.Not before next (λ m n. ap (do_not before.values) e)

  pub join_does : (c : Connective) (x y b : Bool) (us bs : List Bool) → before.truths ≡ y ∷ us → us ≡ x ∷ bs → b ≡ joined_by c x y → next.truths ≡ b ∷ bs → next.values ≡ before.values → next.frames ≡ before.frames → Does (frame.Join c) before next (Ok 0)
  join_does c x y b us bs e h j t v fs =
      has_ended (frame.Join c) before next
      (λ m n. ap (do_join c before.values) (e ∙ ap (λ (z : List Bool). y ∷ z) h) ∙ ap₂ holding (sym v) (ap (λ z. z ∷ bs) (sym j) ∙ sym t)) fs

  pub join_stuck : (c : Connective) → before.truths ≡ [] → Does (frame.Join c) before next (Err error.TurnsSpent)
  join_stuck c e = is_stuck (frame.Join c) before next (λ m n. ap (do_join c before.values) e)

  pub join_one : (c : Connective) (y : Bool) (us : List Bool) → before.truths ≡ y ∷ us → us ≡ [] → Does (frame.Join c) before next (Err error.TurnsSpent)
  join_one c y us e h = is_stuck (frame.Join c) before next (λ m n. ap (do_join c before.values) (e ∙ ap (λ (z : List Bool). y ∷ z) h))

  pub return_does : (base : ℕ) (us : List ValueTree) (v : ValueTree) → before.values ≡ us ++ v ∷ [] → next.values ≡ take base us ++ v ∷ [] → next.truths ≡ before.truths → next.frames ≡ before.frames → Does (frame.Return base) before next (Ok 0)
  return_does base us v e w t fs =
      has_ended (frame.Return base) before next
      (λ m n. ap (λ (z : List ValueTree). do_return base (record { values = z; truths = before.truths })) e
      ∙ (with_top-last us v (λ vs x. holding (take base vs ++ x ∷ []) before.truths) ∙ ap₂ holding (sym w) (sym t))) fs

  pub return_stuck : (base : ℕ) → before.values ≡ [] → Does (frame.Return base) before next (Err error.TurnsSpent)
  return_stuck base e = is_stuck (frame.Return base) before next (λ m n. ap (λ (z : List ValueTree). do_return base (record { values = z; truths = before.truths })) e)

  pub forget_does : (base : ℕ) → next.values ≡ take base before.values → next.truths ≡ before.truths → next.frames ≡ before.frames → Does (frame.Forget base) before next (Ok 0)
  forget_does base w t fs = has_ended (frame.Forget base) before next (λ m n. ap₂ holding (sym w) (sym t)) fs

  -- whether two values are the same, as the code tells
  tested : (v w : ValueTree) (b : Bool) → (IsTrue b ↔ (v ≡ w)) → same_value v w ≡ b
  tested v w true h = (same_value-is v w).1 (h.0 refl)
  tested v w false h = told_false (same_value v w) (λ e. let k : false ≡ true = h.1 ((same_value-is v w).0 e) in cc) where
    told_false : (x : Bool) → (x ≡ true → ⊥) → x ≡ false
    told_false true n = absurd (n refl)
    told_false false n = refl

  pub same_does_end : (us ts : List ValueTree) (v w : ValueTree) (b : Bool) → before.values ≡ us ++ w ∷ [] → us ≡ ts ++ v ∷ [] → (IsTrue b ↔ (v ≡ w)) → next.values ≡ ts → next.truths ≡ b ∷ before.truths → next.frames ≡ before.frames → Does frame.Same before next (Ok 0)
  same_does_end us ts v w b e h is x t fs =
      has_ended frame.Same before next
      (λ m n. ap (λ (z : List ValueTree). do_same (record { values = z; truths = before.truths })) (e ∙ ap (λ (z : List ValueTree). z ++ w ∷ []) h)
      ∙ (with_top-last (ts ++ v ∷ []) w (λ vs y. with_top vs (λ ys z. holding ys (same_value z y ∷ before.truths)))
      ∙ (with_top-last ts v (λ ys z. holding ys (same_value z w ∷ before.truths))
      ∙ ap₂ holding (sym x) (ap (λ z. z ∷ before.truths) (tested v w b is) ∙ sym t)))) fs

  pub choose_does : (s : Scope) (o p out : Bor Out) (b : Bool) (bs : List Bool) → before.truths ≡ b ∷ bs → out.now ≡ (if b then o.now else p.now) → next.truths ≡ bs → next.values ≡ before.values → next.frames ≡ frame.Out s out ∷ before.frames → Does (frame.Choose s o p) before next (Ok 0)
  choose_does s o p out b bs e is t v fs =
      opens_one (frame.Choose s o p) before next (frame.Out s out)
      (λ m n. ap (do_choose m n s o.now p.now before.values) e
      ∙ ap₂ (do_out m n s) (sym is) (ap₂ keeping (sym v) (sym t))) fs

  pub choose_stuck : (s : Scope) (o p : Bor Out) → before.truths ≡ [] → Does (frame.Choose s o p) before next (Err error.TurnsSpent)
  choose_stuck s o p e = is_stuck (frame.Choose s o p) before next (λ m n. ap (do_choose m n s o.now p.now before.values) e)
