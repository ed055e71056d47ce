-- For private contracts: a file that is read part by part.
use Rattle.std.specs.Prelude.{◌≡◌, ℕ, ◌+◌, ◌<◌, ◌≤◌, List, ◌++◌, length, take, drop, Option, Some, None}
use Rattle.syn_outside.specs.Files.{File, file_of, Told}

-- The next k bytes of a file came to those taken before; none came only at the file's end.
abbrev pub AddsPart : List ℕ → List ℕ → ℕ → List ℕ → Type 0
AddsPart old new k bytes = (new ≡ old ++ take k (drop (length old) bytes)) × (k ≡ 0 → length bytes ≤ length old)

-- A turn of a reader, which took k bytes.
pub record TakesPart (files : Option (List File)) (name old new : List ℕ) (k : ℕ) : Type 0 where
  pub grown : length new ≡ length old + k
  pub told : Told (AddsPart old new k) files name
