-- Results one after another: what takes no turn, what takes some first, and three in a row.
use Rattle.std.proofs.Common.{◌≡◌, ℕ, ◌+◌, Option, None, Some, refl, sym, ap, arith}
use Rattle.syn_model.specs.Evaluation.{Counted, after, free}
use Rattle.syn_machine.specs.inner.Frames.{in_turn}

abbrev some_with : {A : Type 0} → A → ℕ → Option (Counted A)
some_with a t = Some (record { result = a; turns = t })

counted_same : {A : Type 0} (a : A) (t u : ℕ) → t ≡ u → some_with a t ≡ some_with a u
counted_same a t u e = ap (λ z. some_with a z) e

pub after-zero : {A : Type 0} (o : Option (Counted A)) → after 0 o ≡ o
after-zero None = refl
after-zero (Some c) = let e : 0 + c.turns ≡ c.turns = omega arith in counted_same c.result (0 + c.turns) c.turns e

pub after-after : {A : Type 0} (a b : ℕ) (o : Option (Counted A)) → after a (after b o) ≡ after (a + b) o
after-after a b None = refl
after-after a b (Some c) = let e : a + (b + c.turns) ≡ (a + b) + c.turns = omega arith in counted_same c.result (a + (b + c.turns)) ((a + b) + c.turns) e

-- turns that come first
pub after-in_turn : {A B : Type 0} (a : ℕ) (o : Option (Counted A)) (k : A → Option (Counted B)) → in_turn (after a o) k ≡ after a (in_turn o k)
after-in_turn a None k = refl
after-in_turn a (Some c) k = sym (after-after a c.turns (k c.result))

-- three in a row
pub in_turn-in_turn : {A B C : Type 0} (o : Option (Counted A)) (f : A → Option (Counted B)) (k : B → Option (Counted C)) → in_turn (in_turn o f) k ≡ in_turn o (λ a. in_turn (f a) k)
in_turn-in_turn None f k = refl
in_turn-in_turn (Some c) f k = after-in_turn c.turns (f c.result) k

pub free-in_turn : {A B : Type 0} (a : A) (k : A → Option (Counted B)) → in_turn (free a) k ≡ k a
free-in_turn a k = after-zero (k a)

-- the same continued in two ways
pub in_turn-same : {A B : Type 0} (o : Option (Counted A)) (f g : A → Option (Counted B)) → ((a : A) → f a ≡ g a) → in_turn o f ≡ in_turn o g
in_turn-same None f g e = refl
in_turn-same (Some c) f g e = ap (after c.turns) (e c.result)

pub in_turn-free : {A : Type 0} (o : Option (Counted A)) → in_turn o (λ a. free a) ≡ o
in_turn-free None = refl
in_turn-free (Some c) = let e : c.turns + 0 ≡ c.turns = omega arith in counted_same c.result (c.turns + 0) c.turns e
