-- For public contracts: a text that is told as far as it was put.
use Rattle.std.specs.Prelude.{◌≡◌, ℕ, ◌<◌, ◌≤◌, List, ◌++◌, length, take, Option, Some, None}

-- The text before, and the text after these bytes were added; an untold text stays untold.
abbrev pub Adds : Option (List ℕ) → Option (List ℕ) → List ℕ → Type 0
Adds None new bytes = new ≡ None
Adds (Some old) new bytes = new ≡ Some (old ++ bytes)

-- Some first bytes were added, perhaps none and perhaps all.
abbrev pub AddsPrefix : Option (List ℕ) → Option (List ℕ) → List ℕ → Type 0
AddsPrefix old new bytes = (k : ℕ) × Adds old new (take k bytes)

-- The first k bytes of `piece` were added, at least one where there is one.
pub record PutsSome (old new : Option (List ℕ)) (piece : List ℕ) (k : ℕ) : Type 0 where
  pub within : k ≤ length piece
  pub adds : Adds old new (take k piece)
  pub some : 0 < length piece → 0 < k
