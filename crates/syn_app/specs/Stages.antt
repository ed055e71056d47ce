-- For public contracts: the work of a command as stages over told files. A stage settles the status, or it passes with what it found; and it
-- comes to the reading of a file. It speaks of what stands before the call alone, faults of the outside and want of memory aside.
use Rattle.std.specs.Prelude.{◌≡◌, ◌⊎◌, ℕ, ◌<◌, ◌≤◌, List, Option, None, Some, length}
use Rattle.syn_outside.specs.Files.{File, Told, file_of}
use Rattle.syn_app.specs.Bounds.{most_bytes}
use Rattle.syn_app.specs.declared.status.Status.{Status}
use Rattle.syn_app.specs.declared.status.Status.TheVariants as status
use Rattle.syn_app.specs.declared.status.Which.{Which}

pub record Stage (A : Type 0) : Type 1 where
  pub Settles : List File → Status → Type 0
  pub Passes : List File → A → Type 0
  pub Reaches : List File → Which → Type 0

-- one stage behind another, which is given what the first found
abbrev pub behind : {A B : Type 0} → Stage A → (A → Stage B) → Stage B
behind {A} first next = record {
  Settles = λ fs r. first.Settles fs r ⊎ ((a : A) × first.Passes fs a × (next a).Settles fs r);
  Passes = λ fs b. (a : A) × first.Passes fs a × (next a).Passes fs b;
  Reaches = λ fs w. first.Reaches fs w ⊎ ((a : A) × first.Passes fs a × (next a).Reaches fs w);
}

-- what is found without a file, always
abbrev pub giving : {A : Type 0} → A → Stage A
giving found = record { Settles = λ fs r. ⊥; Passes = λ fs a. a ≡ found; Reaches = λ fs w. ⊥ }

-- the file isn't among these; it is there, and P holds of its bytes
abbrev pub IsMissing : List File → List ℕ → Type 0
IsMissing fs name = file_of fs name ≡ None

abbrev pub Has : List File → List ℕ → (List ℕ → Type 0) → Type 0
Has fs name P = Told P (Some fs) name

-- a file of at most `most_bytes` bytes, and one of more
abbrev pub IsShort : List ℕ → Type 0
IsShort bytes = length bytes ≤ most_bytes

abbrev pub IsLong : List ℕ → Type 0
IsLong bytes = most_bytes < length bytes

-- a file is read and its text judged: it isn't there; or it is too long; or line k is the first bad one, by `IsBad`; or it is the text of
-- what is found, by `IsTextOf`
abbrev pub reading : {A : Type 0} → Which → List ℕ → (ℕ → Status) → (List ℕ → ℕ → Type 0) → (List ℕ → A → Type 0) → Stage A
reading w name bad IsBad IsTextOf = record {
  Settles = λ fs r. ((r ≡ status.ReadFault w) × IsMissing fs name) ⊎ (((r ≡ status.TooLong w) × Has fs name IsLong) ⊎ ((k : ℕ) × (r ≡ bad k) × Has fs name (λ bytes. IsShort bytes × IsBad bytes k)));
  Passes = λ fs a. Has fs name (λ bytes. IsShort bytes × IsTextOf bytes a);
  Reaches = λ fs u. u ≡ w;
}

-- where files are told, P holds of them; and: they are told, and P holds of them
abbrev pub WhereTold : (List File → Type 0) → Option (List File) → Type 0
WhereTold P None = Unit {0}
WhereTold P (Some fs) = P fs

abbrev pub AreTold : (List File → Type 0) → Option (List File) → Type 0
AreTold P None = ⊥
AreTold P (Some fs) = P fs
