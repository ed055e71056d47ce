-- For private contracts: how many nodes a bank makes between two moments.
use Rattle.std.specs.Prelude.{ℕ, ◌+◌, ◌≤◌}
use Rattle.std.proofs.Common.{arith}
use Rattle.syn_term.specs.Bank.{Kept}

-- from the one to the other at most so many nodes are made
pub Spends : Kept → Kept → ℕ → Type 0
Spends a b n = b.made ≤ a.made + n

pub spends : (a b : Kept) (n : ℕ) → b.made ≤ a.made + n → Spends a b n
unfolding Spends
spends a b n h = h

pub made : (a b : Kept) (n : ℕ) → Spends a b n → b.made ≤ a.made + n
unfolding Spends
made a b n h = h

-- nothing was made
pub spends_none : (a : Kept) (n : ℕ) → Spends a a n
unfolding Spends
spends_none a n = omega arith

-- what is made in two turns
pub spends_both : (a b c : Kept) (m n : ℕ) → Spends a b m → Spends b c n → Spends a c (m + n)
unfolding Spends
spends_both a b c m n h k = omega (arith, h, k)

-- a bound that is no less
pub spends_less : (a b : Kept) (m n : ℕ) → m ≤ n → Spends a b m → Spends a b n
unfolding Spends
spends_less a b m n less h = omega (arith, h, less)
