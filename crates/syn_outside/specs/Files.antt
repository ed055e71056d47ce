-- For public contracts: files told as a list: what a name stands for, and what a read and a write of a part mean.
use Rattle.std.specs.Prelude.{if◌then◌else◌, ◌≡◌, ℕ, ◌-◌, ◌<◌, ◌≤◌, List, [], ◌∷◌, ◌++◌, length, take, drop, Option, Some, None, unwrap_or}
use Rattle.std.specs.Str.{bytes_eq}

-- A file is a name and its bytes.
abbrev pub File : Type 0
File = List ℕ × List ℕ

-- The bytes of the first file of a name: with ("a", [1]) and ("b", [2]), those of "b" are [2].
abbrev pub file_of : List File → List ℕ → Option (List ℕ)
file_of [] name = None
file_of (f ∷ fs) name = if bytes_eq f.0 name then Some f.1 else file_of fs name

-- The bytes of a name, none where it isn't there.
abbrev pub bytes_of : List File → List ℕ → List ℕ
bytes_of fs name = unwrap_or (file_of fs name) []

-- The files once `name` has these bytes: the first file of the name is replaced, else one is added at the end.
abbrev pub with_file : List File → List ℕ → List ℕ → List File
with_file [] name bytes = (name, bytes) ∷ []
with_file (f ∷ fs) name bytes = if bytes_eq f.0 name then (f.0, bytes) ∷ fs else f ∷ with_file fs name bytes

-- Each name stands for one file: no later file has the name of an earlier one.
abbrev pub HasDistinctNames : List File → Type 0
HasDistinctNames [] = Unit {0}
HasDistinctNames (f ∷ fs) = (file_of fs f.0 ≡ None) × HasDistinctNames fs

-- The files are told, and the name isn't among them.
abbrev pub IsAbsent : Option (List File) → List ℕ → Type 0
IsAbsent None name = ⊥
IsAbsent (Some fs) name = file_of fs name ≡ None

-- Where files are told, the file is there and P holds of its bytes.
abbrev pub Told : (List ℕ → Type 0) → Option (List File) → List ℕ → Type 0
Told P None name = Unit {0}
Told P (Some fs) name = (bytes : List ℕ) × (file_of fs name ≡ Some bytes) × P bytes

-- From place `at` of a file with these bytes, k bytes stand at the front of the buffer. None come only where there is no
-- room or where `at` isn't before the file's end.
pub record Gives (at : ℕ) (buffer : List ℕ) (k : ℕ) (bytes : List ℕ) : Type 0 where
  pub there : k ≤ length bytes - at
  pub is : take k buffer ≡ take k (drop at bytes)
  pub some : 0 < length buffer → at < length bytes → 0 < k

-- A read of k bytes from place `at` of a file into a buffer, whose length stays, and so does what stands behind them.
pub record ReadsPart (files : Option (List File)) (name : List ℕ) (at : ℕ) (old new : List ℕ) (k : ℕ) : Type 0 where
  pub fits : k ≤ length old
  pub room : length new ≡ length old
  pub rest : drop k new ≡ drop k old
  pub told : Told (Gives at new k) files name

-- A write may begin at place 0 or within the file: nothing is left out between the file's end and the new bytes.
abbrev pub MayBegin : Option (List File) → List ℕ → ℕ → Type 0
MayBegin None name at = Unit {0}
MayBegin (Some fs) name at = at ≤ length (bytes_of fs name)

-- The files once `name` has its first `at` bytes and then `piece`.
abbrev pub written : List ℕ → ℕ → List ℕ → List File → List File
written name at piece fs = with_file fs name (take at (bytes_of fs name) ++ piece)

-- The files before and after a write of `piece` at place `at`; untold files stay untold.
abbrev pub Writes : Option (List File) → Option (List File) → List ℕ → ℕ → List ℕ → Type 0
Writes None new name at piece = new ≡ None
Writes (Some fs) new name at piece = new ≡ Some (written name at piece fs)

-- A write of the first k bytes of `piece`, at least one where there is one.
pub record WritesSome (old new : Option (List File)) (name : List ℕ) (at : ℕ) (piece : List ℕ) (k : ℕ) : Type 0 where
  pub within : k ≤ length piece
  pub files : Writes old new name at (take k piece)
  pub some : 0 < length piece → 0 < k
