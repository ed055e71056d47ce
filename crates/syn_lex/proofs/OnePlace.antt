-- Two places are one where neither is before the other.
use Rattle.std.proofs.Common.{◌≡◌, ℕ, ◌<◌, arith}

pub one_place : (p q : ℕ) → (p < q → ⊥) → (q < p → ⊥) → p ≡ q
one_place p q m n = grind arith
