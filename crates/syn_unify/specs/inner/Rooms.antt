-- Whether a tree fits where so many nodes and levels are left, and how many nodes are left beside it.
use Rattle.std.specs.Prelude.{◌≡◌, ◌+◌, ◌≤◌, ℕ, Option, MatchOption}

-- a tree of so many nodes and this depth, where `size` nodes and `height` levels are left
abbrev pub HasRoom : ℕ → ℕ → ℕ → ℕ → Option ℕ → Type 0
HasRoom size height nodes depth o = MatchOption o (¬ ((nodes ≤ size) × (depth ≤ height))) (λ left. (nodes + left ≡ size) × (depth ≤ height))
