-- One state of the machine leads to the next: steps in a row, and steps of one frame before any others.
use Rattle.std.proofs.Common.{◌≡◌, ℕ, ◌+◌, ◌<◌, Option, None, Some, refl, sym, ap, ◌∙◌, arith}
use Rattle.syn_model.specs.Evaluation.{Counted, after, with_turns}
use Rattle.syn_eval.specs.Ending.{IsSpent}
use Rattle.syn_machine.specs.inner.Frames.{Held}
use Rattle.syn_machine.specs.inner.Steps.{Moves}

some_one : {A : Type 0} (a b : A) → Some a ≡ Some b → a ≡ b
some_one a b e = cc

turns_twice : {A : Type 0} (a b : ℕ) (c : Counted A) → with_turns a (with_turns b c) ≡ with_turns (a + b) c
turns_twice a b c = let e : a + (b + c.turns) ≡ (a + b) + c.turns = omega arith in λ i. record { result = c.result; turns = e i }

-- what is given after some turns
given_after : (a : ℕ) (c : Counted Held) (o : Option (Counted Held)) → after a o ≡ Some c → (d : Counted Held) × (o ≡ Some d) × (c ≡ with_turns a d)
given_after a c None e = absurd (cc)
given_after a c (Some d) e = (d, refl, sym (some_one (with_turns a d) c e))

-- the same for each bound on the nesting, after the turns
pub moves_same : (cost : ℕ) (before next : ℕ → Option (Counted Held)) → ((n : ℕ) → before n ≡ after cost (next n)) → Moves cost before next
moves_same cost before next e = record {
  to = λ n c h. let g = given_after cost c (next n) (sym (e n) ∙ h) in (n, g.0, g.1, g.2);
  back = λ n d h. (n, e n ∙ ap (after cost) h);
}

-- one step and then others
pub moves_twice : (a b : ℕ) (x y z : ℕ → Option (Counted Held)) → Moves a x y → Moves b y z → Moves (a + b) x z
moves_twice a b x y z f g = record {
  to = λ n c h.
      let p = f.to n c h in
      let q = g.to p.0 p.1 p.2 in
      (q.0, q.1, q.2, p.3 ∙ (ap (with_turns a) q.3 ∙ turns_twice a b q.1));
  back = λ n d h.
      let q = g.back n d h in
      let p = f.back q.0 (with_turns b d) q.1 in
      (p.0, p.1 ∙ ap (λ z. Some z) (turns_twice a b d));
}

-- no step at all
pub moves_none_yet : (x : ℕ → Option (Counted Held)) → Moves 0 x x
moves_none_yet x = record {
  to = λ n c h. (n, c, h, zero_turns c);
  back = λ n d h. (n, h ∙ ap (λ z. Some z) (zero_turns d));
} where
  zero_turns : (c : Counted Held) → c ≡ with_turns 0 c
  zero_turns c = let e : c.turns ≡ 0 + c.turns = omega arith in λ i. record { result = c.result; turns = e i }

-- what is spent behind a step is spent before it
pub spent_behind : (cost left turns : ℕ) (before next : ℕ → Option (Counted Held)) → cost + left ≡ turns → Moves cost before next → IsSpent next left → IsSpent before turns
spent_behind cost left turns before next sum m s n c e =
    let g = m.to n c e in
    let less : left < g.1.turns = s g.0 g.1 g.2 in
    let took : c.turns ≡ cost + g.1.turns = ap (λ (z : Counted Held). z.turns) g.3 in
    omega (arith, less, took, sum)
