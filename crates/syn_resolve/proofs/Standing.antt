-- What is appended of the formulas that stand at positions, and what stands there with it.
use Rattle.std.proofs.Common.{◌≡◌, ◌≤◌, ◌-◌, ℕ, Bool, true, false, List, [], ◌∷◌, ◌++◌, Some, length, get_or, take, drop, take_all, append_assoc, sym, ◌∙◌, ap, subst, arith}
use Rattle.syn_form.specs.Positions.{at_position, formula}
use Rattle.syn_form.specs.Trees.{FormTree}
use Rattle.syn_resolve.specs.inner.Standing.{Puts, Stand}

abbrev pub rest_of : List (List ℕ) → List (List ℕ)
rest_of ps = take (length ps - 1) (drop 1 ps)

pub first_and_rest : (ps : List (List ℕ)) (k : List ℕ) → 1 ≤ length ps → k ≡ get_or ps 0 k → ps ≡ k ∷ rest_of ps
first_and_rest [] k few e = absurd (omega arith)
first_and_rest (p ∷ ps) k few e =
    let count : length (p ∷ ps) - 1 ≡ length ps = omega arith in
    let rest : rest_of (p ∷ ps) ≡ ps = ap (λ (n : ℕ). take n ps) count ∙ take_all (length ps) ps (omega arith) in
    ap (λ (z : List ℕ). z ∷ ps) (sym e) ∙ ap (λ (z : List (List ℕ)). k ∷ z) (sym rest)

module _ (f : FormTree) where
  none_at_first : (k : List ℕ) (ks : List (List ℕ)) → ((g : FormTree) → at_position k (formula f) ≡ Some (formula g) → ⊥) → (parts : List FormTree) → Stand f (k ∷ ks) parts → ⊥
  none_at_first k ks none [] h = absurd (cc)
  none_at_first k ks none (g ∷ gs) h = none g (cc)

  pub none_first : (ps : List (List ℕ)) (k : List ℕ) → 1 ≤ length ps → k ≡ get_or ps 0 k → ((g : FormTree) → at_position k (formula f) ≡ Some (formula g) → ⊥) → (parts : List FormTree) → Stand f ps parts → ⊥
  none_first ps k few is none parts h = none_at_first k (rest_of ps) none parts (subst (λ (z : List (List ℕ)). Stand f z parts) (first_and_rest ps k few is) h)

  stand_next : (k : List ℕ) (ks : List (List ℕ)) (g : FormTree) (gs : List FormTree) → at_position k (formula f) ≡ Some (formula g) → Stand f ks gs → Stand f (k ∷ ks) (g ∷ gs)
  stand_next k ks g gs e h = cc

  none_behind : (k : List ℕ) (ks : List (List ℕ)) → ((parts : List FormTree) → Stand f ks parts → ⊥) → (parts : List FormTree) → Stand f (k ∷ ks) parts → ⊥
  none_behind k ks none [] h = absurd (cc)
  none_behind k ks none (g ∷ gs) h = none gs (cc)

  puts_next : (k : List ℕ) (ks : List (List ℕ)) (g : FormTree) (old : List FormTree) → at_position k (formula f) ≡ Some (formula g) → (b : Bool) (new : List FormTree) → Puts b ks f (old ++ g ∷ []) new → Puts b (k ∷ ks) f old new
  puts_next k ks g old e true new h = (g ∷ h.0, h.1 ∙ append_assoc old (g ∷ []) h.0, stand_next k ks g h.0 e h.2)
  puts_next k ks g old e false new h = none_behind k ks h

  pub put_first : (ps : List (List ℕ)) (k : List ℕ) (g : FormTree) (old mid : List FormTree) → 1 ≤ length ps → k ≡ get_or ps 0 k → at_position k (formula f) ≡ Some (formula g) → mid ≡ old ++ g ∷ [] → (b : Bool) (new : List FormTree) → Puts b (rest_of ps) f mid new → Puts b ps f old new
  put_first ps k g old mid few is e same b new h =
      subst (λ (z : List (List ℕ)). Puts b z f old new) (sym (first_and_rest ps k few is))
      (puts_next k (rest_of ps) g old e b new (subst (λ (z : List FormTree). Puts b (rest_of ps) f z new) same h))
